-- Copies of rectangles (psx-spx, GP0(80h) "Copy Rectangle (VRAM to VRAM)"). Our own rule: pixels are copied one by
-- one, row by row and from left to right. Each is read from video memory as it is when its turn comes.
use Rattle.std.specs.Prelude.{ℕ, List, ◌+◌}
use Rattle.px_num.specs.Fold.{each_below}
use Rattle.px_num.specs.declared.shape.Cell.{Cell}
use Rattle.vram_store.specs.Vram.{height_of, at}
use Rattle.vram_store.specs.Plot.{plot}
use Rattle.vram_copy.specs.Rect.{Sides, Size, right, down}

-- the source cell is read, and plotted at the target cell
abbrev pub copied_cell : List ℕ → ℕ → Cell → Cell → List ℕ
copied_cell m mask source target = plot m mask target.x target.y (at m source.x source.y)

-- w cells of a row, one after another
abbrev pub copied_row : List ℕ → ℕ → Cell → Cell → ℕ → List ℕ
copied_row m mask source target w = each_below (λ i cells. copied_cell cells mask (right source i) (right target i)) w m

-- rows of a rectangle, one after another
abbrev pub copied_rows : (height : ℕ) → List ℕ → ℕ → Sides → Size → List ℕ
copied_rows height m mask sides size =
    each_below (λ j cells. copied_row cells mask (down height sides.from j) (down height sides.to j) size.w) size.h m

-- a rectangle is copied
unfoldable pub copied_rectangle : List ℕ → ℕ → Sides → Size → List ℕ
copied_rectangle m mask sides size = copied_rows (height_of m) m mask sides size

-- n cells within one row, one after another
abbrev pub copied_run : List ℕ → ℕ → Cell → Cell → ℕ → List ℕ
copied_run m mask source target n =
    each_below (λ i cells. plot cells mask (target.x + i) target.y (at cells (source.x + i) source.y)) n m
