-- Boxes of cells of video memory, and their rows.
use Rattle.std.specs.Prelude.{ℕ, ◌+◌, ◌-◌, unsigned_abs, List, pos, ◌-ℤ◌, ◌≤ℤ◌, ◌<ℤ◌}
use Rattle.px_num.specs.declared.shape.Box2.{Box2}
use Rattle.px_num.specs.declared.shape.Cell.{Cell}
use Rattle.span_lanes.specs.Cells.{row_cells}
use Rattle.span_lanes.specs.declared.span.ClipRect.{ClipRect}

-- a box of cells of video memory of this height, with at least one cell
pub record IsOnScreen (height : ℕ) (b : Box2) : Type 0 where
  pub left : pos 0 ≤ℤ b.x1
  pub across : b.x1 ≤ℤ b.x2
  pub right : b.x2 ≤ℤ pos 1023
  pub top : pos 0 ≤ℤ b.y1
  pub down : b.y1 ≤ℤ b.y2
  pub bottom : b.y2 <ℤ pos height

-- a box within another
pub record LiesInBox (outer b : Box2) : Type 0 where
  pub left : outer.x1 ≤ℤ b.x1
  pub top : outer.y1 ≤ℤ b.y1
  pub right : b.x2 ≤ℤ outer.x2
  pub bottom : b.y2 ≤ℤ outer.y2

-- a box of video memory as a clip rectangle
unfoldable pub clip_rect_of : Box2 → ClipRect
clip_rect_of b = record {
  x = unsigned_abs b.x1;
  y = unsigned_abs b.y1;
  w = unsigned_abs (b.x2 -ℤ b.x1) + 1;
  h = unsigned_abs (b.y2 -ℤ b.y1) + 1;
}

-- all cells of row y of a clip rectangle
abbrev pub clip_row : ClipRect → (y : ℕ) → List Cell
clip_row b y = row_cells b.x y b.w

-- one row of a clip rectangle, as a box
abbrev pub row_box : ClipRect → ℕ → Box2
row_box b y = record { x1 = pos b.x; y1 = pos y; x2 = pos (b.x + b.w - 1); y2 = pos y }
