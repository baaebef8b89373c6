-- Rectangles of one colour (psx-spx, GP0(02h) "Fill Rectangle in VRAM").
use Rattle.std.specs.Prelude.{ℕ, List}
use Rattle.px_num.specs.Fold.{each_below}
use Rattle.px_num.specs.declared.shape.Cell.{Cell}
use Rattle.vram_store.specs.Vram.{height_of, set}
use Rattle.vram_copy.specs.Rect.{Size, right, down}

-- w cells of a row are set, from the first to the right; X wraps at 1024
abbrev pub filled_row : List ℕ → Cell → ℕ → ℕ → List ℕ
filled_row m first w color = each_below (λ i cells. set cells (right first i).x first.y color) w m

-- rows of a rectangle are set, from its first cell downward; Y wraps at the height
abbrev pub filled_rows : (height : ℕ) → List ℕ → Cell → Size → ℕ → List ℕ
filled_rows height m first size color =
    each_below (λ j cells. filled_row cells (down height first j) size.w color) size.h m

-- a rectangle is filled, whatever the mask setting is
unfoldable pub filled_rectangle : List ℕ → Cell → Size → ℕ → List ℕ
filled_rectangle m first size color = filled_rows (height_of m) m first size color
