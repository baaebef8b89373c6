-- Moving a run of cells at once equals copying them one after another.
use Rattle.std.proofs.Common.{◌≡◌, ◌≤◌, ◌+◌, ◌*◌, ◌-◌, ◌/◌, ◌%◌, ◌^◌, ℕ, zero, suc, List, Bool, true, false}
use Rattle.std.proofs.Common.{cond, eqb, length, drop}
use Rattle.std.proofs.Common.{inl, inr, sym, ◌∙◌, arith}
use Rattle.std.proofs.lemmas.Bool.{cases_eq}
use Rattle.std.proofs.lemmas.Bool.Decides.{nat_tests}
use Rattle.std.proofs.lemmas.List.{get_or-drop}
use Rattle.px_num.specs.declared.shape.Cell.{Cell}
use Rattle.overlap_guard.specs.Hazard.{has_copy_hazard}
use Rattle.overlap_guard.proofs.TestLemmas.{copy_iff, false_of}
use Rattle.vram_store.specs.Runs.{AreApart}
use Rattle.vram_store.specs.Vram.{IsPut}
use Rattle.vram_store.specs.Plot.{is_testing, is_forcing}
use Rattle.vram_store.proofs.MaskLemmas.{forced_off, open_untested}
use Rattle.vram_store.proofs.Ones.{low_ones}
use Rattle.vram_store.proofs.Puts.{put_all}
use Rattle.vram_copy.specs.Copy.{copied_run}
use Rattle.vram_copy.specs.Costs.{chunk_cost, piece_cost}
use Rattle.vram_copy.proofs.CopyLemmas.{place, free_of, run_at_once}

-- no cell is read after it is written
apart_free : (s t : Cell) (n : ℕ) → AreApart s t n → has_copy_hazard s t n ≡ false
apart_free s t n apart = false_of _ (copy_iff s t n) (λ h. elim apart [
  | inl other ↦ other h.2.2.1
  | inr far ↦ omega (arith, far, h.1, h.2.1, h.2.2.0)
])

pub moved_run : (old new : List ℕ) (mask : ℕ) (s t : Cell) (n : ℕ) → is_testing mask ≡ false → is_forcing mask ≡ false
    → AreApart s t n → s.x + n ≤ 1024 → t.x + n ≤ 1024 → place t + n ≤ length old
    → IsPut old (place t) n (drop (place s) old) new
    → new ≡ copied_run old mask s t n
moved_run old new mask s t n untested unforced apart room_s room_t in_cells put =
    run_at_once old new mask s t (record { n = n; lanes = drop (place s) old; bits = 2 ^ n - 1 })
    (free_of s t n (apart_free s t n apart)) room_s room_t
    (record {
      colors = λ j lt. get_or-drop (place s) old j 0 ∙ sym (forced_off mask _ unforced);
      open_cells = λ j lt. low_ones n j lt ∙ open_untested mask _ untested;
    })
    (put_all old (drop (place s) old) new (place t) n in_cells put)

-- ---- a move costs no more than its chunks

at_least : (b : Bool) (k : ℕ) → 1 ≤ k → 3 ≤ cond b (3 * k) 3
at_least true k some = omega (arith, some)
at_least false k some = omega arith

chunk_at_least : (s t : Cell) (k : ℕ) → 1 ≤ k → 3 ≤ chunk_cost s t k
unfolding chunk_cost
chunk_at_least s t k some = at_least (has_copy_hazard s t k) k some

chunks_at_least : (q c : ℕ) → 3 ≤ c → 3 * q ≤ q * c
chunks_at_least zero c some = omega arith
chunks_at_least (suc q) c some = let rest = chunks_at_least q c some in omega (arith, rest, some)

pub move_spent : (s t : Cell) (n : ℕ) → 2 * ((n + 15) / 16) ≤ piece_cost s t n
move_spent s t n =
    let whole = chunks_at_least (n / 16) (chunk_cost s t 16) (chunk_at_least s t 16 (omega arith)) in
    elim (cases_eq (n % 16) 0) [
      | inl none ↦ rw none (omega (arith, whole, none))
      | inr some ↦
          let not_all : eqb (n % 16) 0 ≡ false = grind (arith, nat_tests, some) in
          let last = chunk_at_least s t (n % 16) (omega (arith, some)) in
          rw not_all (omega (arith, whole, some, last))
    ]
