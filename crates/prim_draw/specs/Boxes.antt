-- Boxes of cells, and their cells in the order in which they are drawn.
use Rattle.std.specs.Prelude.{ℕ, ◌*◌, List, Option, None, Some, ◌||◌, if◌then◌else◌, int_lt}
use Rattle.std.specs.Int.{int_min, int_max}
use Rattle.px_num.specs.declared.shape.Box2.{Box2}
use Rattle.px_num.specs.declared.shape.Cell.{Cell}
use Rattle.gp1_status.specs.Registers.{Registers}
use Rattle.gp1_status.specs.Drawing.{drawing_area}
use Rattle.span_lanes.specs.Figures.Boxes.{clip_rect_of}
use Rattle.span_lanes.specs.Cells.{row_cells}
use Rattle.span_lanes.specs.Figures.Rows.{cells_down}
use Rattle.span_lanes.specs.declared.span.ClipRect.{ClipRect}

-- a box, or none if it has no cell
unfoldable pub some_box : Box2 → Option Box2
some_box b = if int_lt b.x2 b.x1 || int_lt b.y2 b.y1 then None else Some b

-- the cells that two boxes have in common
unfoldable pub overlap : Box2 → Box2 → Box2
overlap a b = record {
  x1 = int_max a.x1 b.x1;
  y1 = int_max a.y1 b.y1;
  x2 = int_min a.x2 b.x2;
  y2 = int_min a.y2 b.y2;
}

-- a box clipped to the drawing area
abbrev pub clipped : Registers → Box2 → Option Box2
clipped r b = some_box (overlap b (drawing_area r))

-- h rows of w cells from (x, y) on: rows from the top, and each from left to right
abbrev pub cells_in_rows : (x y w h : ℕ) → List Cell
cells_in_rows x y w h = cells_down (λ row. row_cells x row w) y h

-- all cells of a clip rectangle
abbrev pub cells_of : ClipRect → List Cell
cells_of b = cells_in_rows b.x b.y b.w b.h

-- the number of cells of a clip rectangle
abbrev pub count_of : ClipRect → ℕ
count_of b = b.w * b.h

-- the number of cells of an optional box
abbrev pub count_in : Option Box2 → ℕ
count_in None = 0
count_in (Some b) = count_of (clip_rect_of b)
