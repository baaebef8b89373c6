-- Two states of video memory that are equal except at some cells.
use Rattle.std.specs.Prelude.{◌≡◌, ℕ, ◌/◌, ◌%◌, ◌⊎◌, List, Option, None, Some, pos, ◌≤ℤ◌, length, slice_index}
use Rattle.px_num.specs.declared.shape.Box2.{Box2}

-- a box contains the cell with index k
pub record Has (b : Box2) (k : ℕ) : Type 0 where
  pub left : b.x1 ≤ℤ pos (k % 1024)
  pub right : pos (k % 1024) ≤ℤ b.x2
  pub top : b.y1 ≤ℤ pos (k / 1024)
  pub bottom : pos (k / 1024) ≤ℤ b.y2

abbrev pub IsIn : Option Box2 → ℕ → Type 0
IsIn None k = ⊥
IsIn (Some b) k = Has b k

-- they have the same number of cells, and each cell is in `among` or equal in both
pub record AgreeBut (among : ℕ → Type 0) (m now : List ℕ) : Type 0 where
  pub count : length now ≡ length m
  pub others : (k : ℕ) → among k ⊎ (slice_index now k ≡ slice_index m k)

-- they are equal outside the box, or everywhere if there is none
abbrev pub AgreeOutside : Option Box2 → List ℕ → List ℕ → Type 0
AgreeOutside b m now = AgreeBut (IsIn b) m now

-- they have the same number of cells, and cell k is equal in both
pub record SameAt (k : ℕ) (m now : List ℕ) : Type 0 where
  pub count : length now ≡ length m
  pub cell : slice_index now k ≡ slice_index m k
