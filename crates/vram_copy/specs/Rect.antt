-- Cells of rectangles, which wrap at the edges of video memory (psx-spx, "GPU Memory Transfer Commands").
use Rattle.std.specs.Prelude.{ℕ, ◌+◌, ◌%◌, ◌<◌, ◌≤◌}
use Rattle.px_num.specs.declared.shape.Cell.{Cell}

-- the cell i columns to the right; X wraps at 1024
abbrev pub right : Cell → ℕ → Cell
right cell i = record { x = (cell.x + i) % 1024; y = cell.y }

-- the cell j rows below; Y wraps at the height
abbrev pub down : ℕ → Cell → ℕ → Cell
down height cell j = record { x = cell.x; y = (cell.y + j) % height }

-- the first cells of both sides of a copy: source and target
pub record Sides : Type 0 where
  pub from : Cell
  pub to : Cell

-- the number of columns and rows of a rectangle
pub record Size : Type 0 where
  pub w : ℕ
  pub h : ℕ

-- the n cells from a cell to the right are in one row of video memory of this height
abbrev pub LieInRow : (height : ℕ) → Cell → (n : ℕ) → Type 0
LieInRow height cell n = (cell.x + n ≤ 1024) × (cell.y < height)

-- the cell i columns to the right, in the same row
abbrev pub beside : Cell → ℕ → Cell
beside cell i = record { x = cell.x + i; y = cell.y }
