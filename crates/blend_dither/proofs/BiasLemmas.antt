-- Lanes of dither offsets, with 4 added to each.
use Rattle.std.proofs.Common.{◌≡◌, ℕ, ◌<◌, List, length, get_or, replicate, map, Fits, w16, ℤ, pos, ◌+ℤ◌, ◌≤ℤ◌, to_z}
use Rattle.std.proofs.Common.{of_z, SFits, T, ap, ◌∙◌, arith}
use lib.IntN.{nat_abs}
use borrow.Author.Differences.{up}
use lib.Signed.{non_neg, yes_non_neg, pos-nat_abs}
use Rattle.std.proofs.lemmas.Int.{ints, to_z-of_z}
use Rattle.std.proofs.lemmas.List.{get_or-map, length-map}
use lib.Lanes.{zip2, Each1, Each2}
use Rattle.std.proofs.lemmas.Simd.{get_or-replicate, Each1-from_get_or}
use Rattle.px_num.proofs.LaneOps.{each2, long_splat, at_splat}
use Rattle.blend_dither.specs.Color.{IsShift}
use Rattle.blend_dither.proofs.Offsets.{low_bias}

-- two lanes added as signed numbers; the sum fits
abbrev sum : ℕ → ℕ → ℕ
sum a b = of_z w16 (to_z w16 a +ℤ to_z w16 b)

abbrev SumFits : ℕ → ℕ → Type 0
SumFits a b = SFits w16 (to_z w16 a +ℤ to_z w16 b)

-- a signed lane as an unsigned one; no bits are lost
abbrev unsigned : ℕ → ℕ
unsigned a = nat_abs (to_z w16 a)

abbrev Casts : ℕ → Type 0
Casts a = T (non_neg (to_z w16 a)) × Fits w16 (nat_abs (to_z w16 a))

abbrev bits : List ℤ → List ℕ
bits shifts = map (of_z w16) shifts

abbrev sums : List ℤ → List ℕ
sums shifts = zip2 sum (bits shifts) (replicate 16 4)

abbrev biases : List ℤ → List ℕ
biases shifts = map unsigned (sums shifts)

-- ---- one lane

abbrev raised : ℕ → ℕ
raised a = sum a 4

raised_is : (s : ℤ) → IsShift s → to_z w16 (raised (of_z w16 s)) ≡ s +ℤ pos 4
raised_is s small = omega (arith, ints)

raised_fits : (s : ℤ) → IsShift s → SumFits (of_z w16 s) 4
raised_fits s small = omega (arith, ints)

raised_positive : (s : ℤ) → IsShift s → pos 0 ≤ℤ to_z w16 (raised (of_z w16 s))
raised_positive s small = omega (arith, ints)

raised_casts : (s : ℤ) → IsShift s → Casts (raised (of_z w16 s))
raised_casts s small =
    let yes = yes_non_neg (raised_positive s small) in
    (yes, record { fits = omega (arith, ints, ap up (pos-nat_abs _ yes), raised_is s small) })

-- ---- sixteen lanes

module _ (shifts : List ℤ) (long : length shifts ≡ 16)
    (small : (i : ℕ) → i < 16 → IsShift (get_or shifts i (pos 0))) where
  at_bits : (i : ℕ) → i < 16 → get_or (bits shifts) i 0 ≡ of_z w16 (get_or shifts i (pos 0))
  at_bits i lt = get_or-map (of_z w16) shifts i (pos 0) 0 (omega arith)

  long_bits : length (bits shifts) ≡ 16
  long_bits = simp length-map long

  pub sums_fit : Each2 SumFits (bits shifts) (replicate 16 4)
  sums_fit =
      let e = long_bits in
      each2 SumFits (bits shifts) (replicate 16 4) long_bits
      (λ i lt.
      let below : i < 16 = omega arith in
      rw (at_bits i below, get_or-replicate {A = ℕ} 16 i 4 0 below)
      (raised_fits (get_or shifts i (pos 0)) (small i below)))

  at_raised : (i : ℕ) → i < 16 → get_or (sums shifts) i 0 ≡ raised (of_z w16 (get_or shifts i (pos 0)))
  at_raised i lt = at_splat sum (bits shifts) 4 long_bits i lt ∙ ap raised (at_bits i lt)

  long_raised : length (sums shifts) ≡ 16
  long_raised = long_splat sum (bits shifts) 4 long_bits

  pub casts_fit : Each1 Casts (sums shifts)
  casts_fit =
      let e = long_raised in
      Each1-from_get_or Casts (sums shifts) 0
      (λ i lt.
      let below : i < 16 = omega arith in
      rw (at_raised i below) (raised_casts (get_or shifts i (pos 0)) (small i below)))

  pub at_biased : (i : ℕ) → i < 16 → pos (get_or (biases shifts) i 0) ≡ get_or shifts i (pos 0) +ℤ pos 4
  at_biased i lt =
      let e = long_raised in
      let s = get_or shifts i (pos 0) in
      ap pos (get_or-map unsigned (sums shifts) i 0 0 (omega arith)
      ∙ ap unsigned (at_raised i lt))
      ∙ pos-nat_abs (to_z w16 (raised (of_z w16 s))) (yes_non_neg (raised_positive s (small i lt)))
      ∙ raised_is s (small i lt)

  pub biased_low : (i : ℕ) → i < 16 → get_or (biases shifts) i 0 < 8
  biased_low i lt = low_bias _ _ (small i lt) (at_biased i lt)

  -- the signed lanes that are passed to a call
  pub at_again : (i : ℕ) → i < 16 → get_or (map (to_z w16) (bits shifts)) i (pos 0) ≡ get_or shifts i (pos 0)
  at_again i lt =
      let e = long_bits in
      let fits : SFits w16 (get_or shifts i (pos 0)) = let h = small i lt in omega (arith, ints) in
      get_or-map (to_z w16) (bits shifts) i 0 (pos 0) (omega arith)
      ∙ ap (to_z w16) (at_bits i lt)
      ∙ to_z-of_z w16 (get_or shifts i (pos 0)) fits
