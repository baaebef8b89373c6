-- The lines of taps, one after another.
use Rattle.std.proofs.Common.{◌≡◌, ◌<◌, ◌≤◌, ℕ, ◌+◌, ◌++◌, List, [], length, drop, get_or, map, flat_map, refl, ap}
use Rattle.std.proofs.lemmas.List.{drop_more, drop_all}
use Rattle.gpu_taps.specs.Tally.{Reading}
use Rattle.packet_text.specs.Tap.{tap_line}

module _ {T : Type 0} (heard : T → Reading) (taps : List T) (i : ℕ) where
  -- the line of the next tap, and then the rest
  pub reports_next : (tap : T) → i < length taps → tap ≡ get_or taps i tap
      → flat_map tap_line (map heard (drop i taps)) ≡ tap_line (heard tap) ++ flat_map tap_line
      (map heard (drop (i + 1) taps))
  reports_next tap lt is = rw (drop_more taps i tap lt, ← is) refl

  pub reports_end : length taps ≤ i → flat_map tap_line (map heard (drop i taps)) ≡ []
  reports_end le = ap (λ taps. flat_map tap_line (map heard taps)) (drop_all i taps le)
