-- Triangles and quads, cell by cell (psx-spx, "GPU Render Polygon Commands"; the choice of cells is our own rule).
use Rattle.std.specs.Prelude.{ℕ, List, Option, None, Some, ◌||◌, if◌then◌else◌}
use Rattle.std.specs.List.{filter}
use Rattle.px_num.specs.declared.shape.Box2.{Box2}
use Rattle.px_num.specs.declared.shape.Vertex.{Vertex}
use Rattle.gp1_status.specs.Registers.{Registers}
use Rattle.edge_walk.specs.Extent.{bounding_box}
use Rattle.edge_walk.specs.Triangle.{Corners, corners, is_drawn}
use Rattle.span_lanes.specs.declared.span.Paint.{Paint}
use Rattle.span_lanes.specs.declared.span.Paint.TheVariants.{Flat, Shaded, TexturedTri}
use Rattle.span_lanes.specs.Figures.Boxes.{clip_rect_of}
use Rattle.prim_draw.specs.Boxes.{cells_of, clipped}
use Rattle.span_lanes.specs.Pattern.{uniform, painted_cells}
use Rattle.span_lanes.specs.Figures.Triangles.{draws}
use Rattle.prim_draw.specs.Settings.{brush_in, placed, texture_in}
use Rattle.span_lanes.specs.declared.span.DrawState.{DrawState}
use Rattle.prim_draw.specs.declared.primitives.Polygon.{Polygon}
use Rattle.prim_draw.specs.declared.settings.Style.{Style}

-- the box of a triangle in the drawing area: none if the size rule refuses it, its area is 0 or no cell of its box is
-- in the drawing area
unfoldable pub triangle_box : Registers → Corners → Option Box2
triangle_box r t = if is_drawn t then clipped r (bounding_box t) else None

-- the paint of a triangle: textured, shaded or of the command's colour; a flat triangle without a texture is not
-- dithered
unfoldable pub triangle_paint : Registers → Style → Corners → Paint
triangle_paint r style t =
    if style.textured then TexturedTri t (texture_in r style.clut style.raw)
    else (if style.shaded then Shaded t
    else Flat style.color)

unfoldable pub triangle_state : Registers → Style → Corners → DrawState
triangle_state r style t =
    record { paint = triangle_paint r style t; brush = brush_in r style.semi (style.shaded || style.textured) }

-- the cells of a box that the triangle draws, in scan order
abbrev pub drawn_inside : DrawState → Corners → Option Box2 → List ℕ → List ℕ
drawn_inside state t None m = m
drawn_inside state t (Some b) m = painted_cells (uniform state) (filter (draws t) (cells_of (clip_rect_of b))) m

unfoldable pub drawn_triangle : Registers → Style → Corners → List ℕ → List ℕ
drawn_triangle r style t m = drawn_inside (triangle_state r style t) t (triangle_box r t) m

-- three vertices of a packet with the drawing offset added
abbrev pub placed_corners : Registers → Vertex → Vertex → Vertex → Corners
placed_corners r a b c = corners (placed r a) (placed r b) (placed r c)

-- the triangles of a polygon: 1-2-3, and 2-3-4 if it has four vertices
abbrev pub upper_half : Registers → Polygon → Corners
upper_half r p = placed_corners r p.a p.b p.c

abbrev pub lower_half : Registers → Polygon → Corners
lower_half r p = placed_corners r p.b p.c p.d

-- a quad is two triangles, one after the other
unfoldable pub drawn_polygon : Registers → Style → Polygon → List ℕ → List ℕ
drawn_polygon r style p m =
    if p.four then drawn_triangle r style (lower_half r p) (drawn_triangle r style (upper_half r p) m)
    else drawn_triangle r style (upper_half r p) m
