-- Segments, point by point (psx-spx, "GPU Render Line Commands"; the choice of points is our own rule).
use Rattle.std.specs.Prelude.{ℕ, List, [], ◌∷◌, Option, None, Bool, true, ◌&&◌, if◌then◌else◌, unsigned_abs, ℤ}
use Rattle.std.specs.Int.{int_min, int_max}
use Rattle.std.specs.Int.Signed.{le_z}
use Rattle.px_num.specs.Fold.{each_below}
use Rattle.px_num.specs.declared.shape.Box2.{Box2}
use Rattle.px_num.specs.declared.shape.Cell.{Cell}
use Rattle.px_num.specs.declared.shape.Vertex.{Vertex}
use Rattle.gp1_status.specs.Registers.{Registers}
use Rattle.line_walk.specs.Line.{Ends, ends, is_near, len_of, point_of}
use Rattle.span_lanes.specs.declared.span.Brush.{Brush}
use Rattle.span_lanes.specs.declared.span.Paint.TheVariants.{Flat}
use Rattle.prim_draw.specs.Boxes.{clipped}
use Rattle.gp1_status.specs.Drawing.{drawing_area}
use Rattle.span_lanes.specs.Pattern.{uniform, painted_cells}
use Rattle.prim_draw.specs.Settings.{brush_in, placed}

-- the smallest box that contains both ends
unfoldable pub ends_box : Ends → Box2
ends_box s = record {
  x1 = int_min s.first.x s.second.x;
  y1 = int_min s.first.y s.second.y;
  x2 = int_max s.first.x s.second.x;
  y2 = int_max s.first.y s.second.y;
}

-- the box of a segment in the drawing area: none if the size rule refuses the segment or no cell of its box is in the
-- drawing area
unfoldable pub segment_box : Registers → Ends → Option Box2
segment_box r s = if is_near s.first s.second then clipped r (ends_box s) else None

abbrev pub is_between : ℤ → ℤ → ℤ → Bool
is_between low high z = le_z low z && le_z z high

-- a point is in a box
unfoldable pub is_in : Box2 → Vertex → Bool
is_in b p = is_between b.x1 b.x2 p.x && is_between b.y1 b.y2 p.y

abbrev pub cell_of : Vertex → Cell
cell_of p = record { x = unsigned_abs p.x; y = unsigned_abs p.y }

-- a cell is drawn in one colour
abbrev pub plotted : Brush → Cell → ℕ → List ℕ → List ℕ
plotted brush cell color m = painted_cells (uniform (record { paint = Flat color; brush = brush })) (cell ∷ []) m

-- a point is drawn if it is in the drawing area
unfoldable pub drawn_point : Box2 → Brush → Vertex → List ℕ → List ℕ
drawn_point area brush p m =
    if is_in area p then plotted brush (cell_of p) p.color m else m

-- the first n points are drawn in their order
abbrev pub drawn_points : Box2 → Brush → Ends → ℕ → List ℕ → List ℕ
drawn_points area brush s n m = each_below (λ k. drawn_point area brush (point_of s k)) n m

-- all points are drawn if the size rule admits the segment; lines may be dithered
unfoldable pub drawn_ends : Registers → Bool → Ends → List ℕ → List ℕ
drawn_ends r semi s m =
    if is_near s.first s.second then drawn_points (drawing_area r) (brush_in r semi true) s (len_of s) m else m

abbrev pub placed_ends : Registers → Vertex → Vertex → Ends
placed_ends r a b = ends (placed r a) (placed r b)
