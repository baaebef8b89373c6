-- Lanes that read a cell that an earlier lane writes.
use Rattle.std.proofs.Common.{◌≡◌, ◌<◌, ◌≤◌, ℕ, zero, suc, ◌+◌, ◌-◌, ◌%◌, ◌^◌, ◌↔◌, Bool, true, false, cond, eqb, ltb}
use Rattle.std.proofs.Common.{IsTrue, not, List, length, get_or, refl, arith}
use Rattle.std.proofs.lemmas.Bool.Decides.{nat_tests}
use Rattle.std.proofs.lemmas.List.FromFn.{get_or-map-range_with_len, length-map-range_with_len}
use Rattle.px_num.specs.Lanes.{EachLane}
use Rattle.px_num.specs.declared.shape.Cell.{Cell}
use Rattle.overlap_guard.specs.Hazard.{HasTexelHazard, WrittenBefore, cell_at}
use Rattle.overlap_guard.specs.Lanes.{lane_cells}

-- if a proposition has a test, so has one that is true exactly if the first is false
pub found_unless : {P Q : Type 0} (none : Bool) → IsTrue none ↔ Q → (test : Bool) → IsTrue test ↔ P → (P → Q → ⊥)
    → ((P → ⊥) → Q) → IsTrue (not none) ↔ P
found_unless true is test tests apart other = (λ h. absurd cc, λ p. absurd (apart p (is.0 refl)))
found_unless false is true tests apart other = (λ h. tests.0 refl, λ p. refl)
found_unless false is false tests apart other = (
  λ h. absurd (cc (is.1 (other (λ p. absurd (cc (tests.1 p)))))),
  λ p. refl,
)

near : (j x y z : ℕ) → x < 1024 → z < 1024 → j < 16 → (0 < j - (x + (2 ^ 16 - z)) % 2 ^ 16) ↔ ((z ≤ x) × (x < z + j))
near j x y z low_x low_z lane = (λ h. (omega arith, omega arith), λ h. omega (arith, h.0, h.1))

-- the lane of a cell that an earlier lane writes is above 0
pub late_lane : (j n x y to_x to_y : ℕ) → x < 1024 → to_x < 1024 → j < 16
    → (0 < cond (eqb y to_y) (cond (ltb j n) j 0) 0 - (x + (2 ^ 16 - to_x)) % 2 ^ 16)
    ↔ ((j < n) × (y ≡ to_y) × (to_x ≤ x) × (x < to_x + j))
late_lane j n x y to_x to_y low_x low_to lane = by_tests (eqb y to_y) (ltb j n) refl refl
  where
    by_tests : (row few : Bool) → eqb y to_y ≡ row → ltb j n ≡ few
        → (0 < cond row (cond few j 0) 0 - (x + (2 ^ 16 - to_x)) % 2 ^ 16)
        ↔ ((j < n) × (y ≡ to_y) × (to_x ≤ x) × (x < to_x + j))
    by_tests true true is_row is_few =
        let close = near j x y to_x low_x low_to lane in (
          λ h. (grind (arith, nat_tests), grind (arith, nat_tests), (close.0 h).0, (close.0 h).1),
          λ h. close.1 (h.2, h.3),
        )
    by_tests true false is_row is_few = (λ h. absurd (omega arith), λ h. absurd (grind (arith, nat_tests, h.0)))
    by_tests false few is_row is_few = (λ h. absurd (omega arith), λ h. absurd (grind (arith, nat_tests, h.1)))

-- the lanes above 0 are those whose texel an earlier lane writes
abbrev pub AreLate : (xs ys : List ℕ) → ℕ → Cell → List ℕ → Type 0
AreLate xs ys n to late = (j : ℕ) → j < 16 → (0 < get_or late j 0)
    ↔ ((j < n) × (get_or ys j 0 ≡ to.y) × (to.x ≤ get_or xs j 0) × (get_or xs j 0 < to.x + j))

abbrev lane_cell : (xs ys : List ℕ) → ℕ → Cell
lane_cell xs ys j = record { x = get_or xs j 0; y = get_or ys j 0 }

module _ (xs ys : List ℕ) (n : ℕ) (to : Cell) (late : List ℕ) (few : n ≤ 16) (lanes : AreLate xs ys n to late) where
  member : (j : ℕ) → j < n → cell_at (lane_cells xs ys n) j ≡ lane_cell xs ys j
  unfolding lane_cells
  member j lt = get_or-map-range_with_len (lane_cell xs ys) 0 n j j (record { x = 0; y = 0 }) lt (omega arith)

  count : length (lane_cells xs ys n) ≡ n
  unfolding lane_cells
  count = length-map-range_with_len (lane_cell xs ys) 0 n

  -- a texel that an earlier lane writes has a lane above 0
  pub late_found : HasTexelHazard (lane_cells xs ys n) to → EachLane (λ j. get_or late j 0 ≡ 0) → ⊥
  late_found h none =
      let j : ℕ = h.0 in
      let long = count in
      let lt : j < n = omega (arith, h.1, long) in
      let lane : j < 16 = omega arith in
      let written : WrittenBefore to j (lane_cell xs ys j) = rw (member j lt) at h.2 in
      let some = (lanes j lane).1 (
        lt,
        written.2.1,
        omega (arith, written.2.0),
        omega (arith, written.1, written.2.0),
      ) in
      omega (arith, some, none j lane)

  -- without such a texel all lanes are 0
  pub none_late : (HasTexelHazard (lane_cells xs ys n) to → ⊥) → EachLane (λ j. get_or late j 0 ≡ 0)
  none_late none j lane = zero_unless (get_or late j 0) (λ some.
      let is = (lanes j lane).0 some in
      let long = count in
      let written : WrittenBefore to j (lane_cell xs ys j) = (
        get_or xs j 0 - to.x,
        omega (arith, is.2, is.3),
        (omega (arith, is.2), is.1),
      ) in
      none (j, omega (arith, is.0, long), rw (member j is.0) written))
    where
      zero_unless : (k : ℕ) → (0 < k → ⊥) → k ≡ 0
      zero_unless zero f = refl
      zero_unless (suc k) f = absurd (f (omega arith))
