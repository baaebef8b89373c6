-- The colours of the cells of a span, by cell number.
use Rattle.std.specs.Prelude.{ℕ, ◌≡◌, ◌+◌, ◌*◌, ◌<◌, pos, IsTrue}
use Rattle.edge_walk.specs.Line.{line_value}
use Rattle.edge_walk.specs.Triangle.{Corners, is_inside}
use Rattle.edge_walk.specs.declared.line.RowLine.{RowLine}
use Rattle.span_lanes.specs.declared.attributes.shading.RowColors.{RowColors}
use Rattle.span_lanes.specs.declared.attributes.shading.RowColors.TheVariants.{One, Lines}
use Rattle.span_lanes.specs.declared.span.Paint.{Paint}
use Rattle.span_lanes.specs.Paints.{paint_color}
use Rattle.span_lanes.specs.Shade.{attribute_in, color_in}

-- the colour of cell `at + j`
abbrev pub color_at_cell : RowColors → ℕ → ℕ → ℕ
color_at_cell (One color) at j = color
color_at_cell (Lines red green blue) at j =
    line_value red at j + 256 * line_value green at j + 65536 * line_value blue at j

-- the colours of n cells are those of a paint from (x, y) on
abbrev pub AreRowColors : Paint → ℕ → ℕ → ℕ → RowColors → Type 0
AreRowColors paint x y n row_colors = (at j : ℕ) → j < 16 → at + j < n
    → color_at_cell row_colors at j ≡ paint_color paint (x + (at + j)) y

-- the value of a line is a triangle's attribute at its cells inside, from (x, y) on
abbrev pub IsLineOf : Corners → (which x y : ℕ) → RowLine → Type 0
IsLineOf tri which x y line =
    (at j : ℕ) → j < 16 → IsTrue (is_inside tri (pos (x + (at + j))) (pos y))
    → line_value line at j ≡ attribute_in tri which (x + (at + j)) y

-- the colours are those of a triangle at its cells inside, from (x, y) on
abbrev pub AreRowColorsOf : Corners → (x y : ℕ) → RowColors → Type 0
AreRowColorsOf tri x y row_colors =
    (at j : ℕ) → j < 16 → IsTrue (is_inside tri (pos (x + (at + j))) (pos y))
    → color_at_cell row_colors at j ≡ color_in tri (x + (at + j)) y
