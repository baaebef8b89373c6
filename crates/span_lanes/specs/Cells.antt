-- Cells that are drawn one after another (our own rule: every pixel reads video memory as it is when that pixel is
-- drawn).
use Rattle.std.specs.Prelude.{ℕ, ◌+◌, ◌*◌, List, [], ◌∷◌, Option, map}
use Rattle.std.specs.List.{range_with_len}
use Rattle.px_num.specs.declared.shape.Cell.{Cell}
use Rattle.vram_store.specs.Plot.{draw_at}

-- the cells of a list in order: the pixel of each, if any, is computed from video memory as it is when its turn
-- comes, and plotted under the mask setting
abbrev pub drawn_cells : (Cell → List ℕ → Option ℕ) → ℕ → List Cell → List ℕ → List ℕ
drawn_cells shade mask [] m = m
drawn_cells shade mask (cell ∷ cells) m =
    drawn_cells shade mask cells (draw_at mask (1024 * cell.y + cell.x) (shade cell m) m)

abbrev pub cell_in_row : ℕ → ℕ → ℕ → Cell
cell_in_row x y i = record { x = x + i; y = y }

-- n cells of a row from (x, y) on, from left to right
unfoldable pub row_cells : ℕ → ℕ → ℕ → List Cell
row_cells x y n = map (cell_in_row x y) (range_with_len 0 n)

-- video memory, and the number of steps so far
pub record Stage : Type 0 where
  pub m : List ℕ
  pub steps : ℕ
