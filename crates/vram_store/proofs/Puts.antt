-- Writes of cells of which some keep their values.
use Rattle.std.proofs.Common.{◌≡◌, ◌<◌, ◌≤◌, inl, inr, ℕ, List, ◌+◌, ◌-◌, ◌^◌, cond, ltb, eqb, length, get_or}
use Rattle.std.proofs.Common.{arith, refl}
use Rattle.std.proofs.Common.{◌∙◌, ◌++◌, ap, zero-add}
use lib.Lanes.{pick_l, chunk}
use Rattle.std.specs.List.{range_with_len}
use Rattle.std.proofs.lemmas.Simd.{pick_l_left, pick_l-range_with_len, get_or-chunk}
use Rattle.std.proofs.lemmas.Bool.{cases_lt}
use Rattle.std.proofs.lemmas.Bool.Decides.{nat_tests}
use Rattle.vram_store.specs.Vram.{IsLoaded, IsStored, IsPut, bit}
use Rattle.vram_store.proofs.Ones.{low_ones}

-- the first eight of sixteen lanes
abbrev pub first_half : List ℕ → List ℕ
first_half lanes = pick_l 0 (lanes ++ lanes) (range_with_len 0 8)

pub half_lane : (lanes : List ℕ) → length lanes ≡ 16 → (j : ℕ) → j < 8
    → get_or (first_half lanes) j 0 ≡ get_or lanes j 0
half_lane lanes long j lt =
    let same : first_half lanes ≡ chunk 0 8 lanes =
    pick_l_left 0 lanes lanes 16 (range_with_len 0 8) long tt
    ∙ pick_l-range_with_len 0 lanes 0 8 (omega (arith, long)) in
    ap (λ xs. get_or xs j 0) same ∙ get_or-chunk 0 8 lanes j 0 lt ∙ ap (λ n. get_or lanes n 0) (zero-add j)

-- a store of n lanes whose bits are all 1
pub put_all : (old lanes new : List ℕ) (start n : ℕ) → start + n ≤ length old → IsPut old start n lanes new
    → IsStored old start (record { n = n; lanes = lanes; bits = 2 ^ n - 1 }) new
put_all old lanes new start n room put = record {
  count = put.count;
  in_cells = room;
  written = λ j lt b. put.written j lt;
  masked = λ j lt not. absurd (not (low_ones n j lt));
  others = put.others;
}

module _ (old lanes loaded chosen result new : List ℕ) (start n size mask : ℕ) (few : n ≤ size)
    (lanes_16 : size ≤ 16) (room : start + 16 ≤ length old)
    (load : IsLoaded old start 16 loaded)
    (choice : (i : ℕ) → i < 16 → get_or chosen i 0 ≡ cond (eqb (bit mask i) 1) (get_or lanes i 0) (get_or loaded i 0))
    (first : (i : ℕ) → i < 16 → get_or result i 0 ≡ cond (ltb i n) (get_or chosen i 0) (get_or loaded i 0))
    (put : IsPut old start size result new) where
  at_lane : (j : ℕ) → j < size → get_or new (start + j) 0
      ≡ cond (ltb j n) (cond (eqb (bit mask j) 1) (get_or lanes j 0) (get_or old (start + j) 0))
      (get_or old (start + j) 0)
  at_lane j lt =
      let lane : j < 16 = omega arith in
      put.written j lt ∙ first j lane ∙ rw (choice j lane) (rw (load.cells j lane) refl)

  behind : (k : ℕ) → start + n ≤ k → get_or new k 0 ≡ get_or old k 0
  behind k le =
      elim (cases_lt k (start + size)) [
        | inl lt ↦ (let e : start + (k - start) ≡ k = omega arith in
            let a = at_lane (k - start) (omega arith) in grind (arith, nat_tests, e, a))
        | inr far ↦ put.others k (inr far)
      ]

  pub put_some : IsStored old start (record { n = n; lanes = lanes; bits = mask }) new
  put_some = record {
    count = put.count;
    in_cells = omega arith;
    written = λ j lt b. let a = at_lane j (omega arith) in grind (arith, nat_tests, a, b);
    masked = λ j lt b. let a = at_lane j (omega arith) in grind (arith, nat_tests, a, b);
    others = λ k away. elim away [ inl lt ↦ put.others k (inl lt) | inr le ↦ behind k le ];
  }
