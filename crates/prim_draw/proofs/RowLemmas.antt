-- The cells of a clip rectangle that a triangle draws.
use Rattle.std.proofs.Common.{◌≡◌, ◌∙◌, ◌+◌, ◌++◌, ℕ, zero, suc, List, refl, sym, ap}
use Rattle.std.specs.List.{filter}
use Rattle.std.proofs.lemmas.List.Elements.{filter-append}
use Rattle.px_num.specs.declared.shape.Cell.{Cell}
use Rattle.edge_walk.specs.Triangle.{Corners}
use Rattle.span_lanes.specs.Cells.{row_cells}
use Rattle.span_lanes.specs.Figures.Rows.{cells_down}
use Rattle.prim_draw.specs.Boxes.{cells_in_rows}
use Rattle.span_lanes.specs.Figures.Triangles.{draws, row_inside}
use Rattle.span_lanes.specs.declared.span.ClipRect.{ClipRect}

-- the cells of a clip rectangle that a triangle draws, row by row
pub inside_rows : (t : Corners) (b : ClipRect) (h : ℕ)
    → cells_down (row_inside t b) b.y h ≡ filter (draws t) (cells_in_rows b.x b.y b.w h)
inside_rows t b zero = refl
inside_rows t b (suc h) =
    ap (λ (cells : List Cell). cells ++ row_inside t b (b.y + h)) (inside_rows t b h)
    ∙ sym (filter-append (draws t) (cells_in_rows b.x b.y b.w h) (row_cells b.x (b.y + h) b.w))
