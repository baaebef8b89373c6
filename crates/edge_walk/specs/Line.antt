-- An attribute along a row (our own rule).
use Rattle.std.specs.Prelude.{ℕ, ◌+◌, ◌-◌, ◌*◌, ◌/◌, ◌%◌, ◌^◌, ◌<◌, ◌≡◌, ℤ, pos, ◌+ℤ◌, int_lt, unsigned_abs, IsTrue}
use Rattle.std.specs.Prelude.{Bool, if◌then◌else◌, List, length, slice_index, ◌≤◌}
use Rattle.px_num.specs.Lanes.{EachLane}
use Rattle.edge_walk.specs.declared.ramp.Ramp.{Ramp}
use Rattle.edge_walk.specs.declared.line.RowLine.{RowLine}
use Rattle.edge_walk.specs.Triangle.{Corners, is_inside}
use Rattle.edge_walk.specs.Attribute.{attribute_at}

-- a size modulo 2^64, negated if it falls
abbrev pub wrapped : Bool → ℕ → ℕ
wrapped falls size = if falls then (2 ^ 64 - size) % 2 ^ 64 else size

unfoldable pub scaled : ℤ → ℕ → ℕ
scaled step by = wrapped (int_lt step (pos 0)) (unsigned_abs step * by % 2 ^ 64)

-- the upper 32 bits of a step, rounded
abbrev pub short_step : ℕ → ℕ
short_step step = (step + 2 ^ 31) % 2 ^ 64 / 2 ^ 32

-- the 32-bit increments from the ninth of sixteen numbers to each of them, for one step
pub record IsRamp (step : ℕ) (ramp : Ramp) : Type 0 where
  pub long : length ramp.lanes ≡ 16
  pub value : EachLane (λ j. slice_index ramp.lanes j ≡ (j + (2 ^ 32 - 8)) % 2 ^ 32 * short_step step % 2 ^ 32)

-- the attribute of lane j, from the upper half of the ninth cell's number
abbrev pub short_value : (step ninth j : ℕ) → ℕ
short_value step ninth j = ((j + (2 ^ 32 - 8)) % 2 ^ 32 * short_step step % 2 ^ 32 + ninth) % 2 ^ 32 / 2 ^ 24

-- the attribute j cells to the right of the cell that is `at` columns after a line's first. It is computed in 32 bits
-- from the ninth cell: the step is rounded, and 8 is added, so that a sum that is a multiple of the area does not
-- become too small
unfoldable pub line_value : RowLine → ℕ → ℕ → ℕ
line_value line at j =
    short_value line.step (((line.first + line.step * (at + 8)) % 2 ^ 64 / 2 ^ 32 + 8) % 2 ^ 32) j

-- the first n of sixteen numbers, followed by zeros
pub record AreFirst (lanes : List ℕ) (n : ℕ) (kept : List ℕ) : Type 0 where
  pub long : length kept ≡ 16
  pub value : (j : ℕ) → j < n → slice_index kept j ≡ slice_index lanes j
  pub rest : (j : ℕ) → n ≤ j → slice_index kept j ≡ 0

-- a line has the values of an attribute from (x, y) to the right, at all cells inside
abbrev pub IsRowLine : Corners → ℕ → ℤ → ℤ → RowLine → Type 0
IsRowLine t which x y line = (at j : ℕ) → j < 16 → IsTrue (is_inside t (x +ℤ pos (at + j)) y) → line_value line at j
    ≡ attribute_at t which (x +ℤ pos (at + j)) y
