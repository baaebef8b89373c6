-- The store steps that a packet may take (our own rule).
use Rattle.std.specs.Prelude.{ℕ, zero, suc, ◌+◌, ◌*◌, Option, None, Some, if◌then◌else◌}
use Rattle.px_num.specs.declared.shape.Box2.{Box2}
use Rattle.gp0_packets.specs.declared.packet.Packet.{Packet}
use Rattle.gp0_packets.specs.declared.packet.Packet.TheVariants as packet
use Rattle.gp1_status.specs.Registers.{Registers}
use Rattle.edge_walk.specs.Triangle.{Corners}
use Rattle.line_walk.specs.Line.{Ends, is_near, len_of, point_of}
use Rattle.span_lanes.specs.Figures.Rows.{cost_down}
use Rattle.span_lanes.specs.Figures.Triangles.{row_inside}
use Rattle.span_lanes.specs.Figures.Boxes.{clip_rect_of, clip_row}
use Rattle.prim_draw.specs.Boxes.{count_in}
use Rattle.prim_draw.specs.Lines.{is_in, placed_ends, segment_box}
use Rattle.prim_draw.specs.Parts.{polygon, polygon_style, rectangle_style}
use Rattle.span_lanes.specs.Pattern.{uniform}
use Rattle.prim_draw.specs.Rectangles.{extent_at, pattern_of, rectangle_box, rectangle_setup_in}
use Rattle.gp1_status.specs.Drawing.{drawing_area}
use Rattle.prim_draw.specs.Triangles.{lower_half, triangle_box, triangle_state, upper_half}
use Rattle.span_lanes.specs.declared.span.DrawState.{DrawState}
use Rattle.prim_draw.specs.declared.primitives.Polygon.{Polygon}
use Rattle.prim_draw.specs.declared.rectangles.Extent.{Extent}
use Rattle.prim_draw.specs.declared.rectangles.RectangleSetup.{RectangleSetup}
use Rattle.prim_draw.specs.declared.settings.Style.{Style}

-- ---- triangles

abbrev pub inside_cost : DrawState → Corners → Option Box2 → ℕ
inside_cost state t None = 0
inside_cost state t (Some b) =
    cost_down (uniform state) (row_inside t (clip_rect_of b)) (clip_rect_of b).y (clip_rect_of b).h

unfoldable pub triangle_cost : Registers → Style → Corners → ℕ
triangle_cost r style t = inside_cost (triangle_state r style t) t (triangle_box r t)

unfoldable pub polygon_cost : Registers → Style → Polygon → ℕ
polygon_cost r style p =
    triangle_cost r style (upper_half r p) + (if p.four then triangle_cost r style (lower_half r p) else 0)

-- ---- rectangles

abbrev pub all_cost : RectangleSetup → Extent → Option Box2 → ℕ
all_cost rectangle_setup e None = 0
all_cost rectangle_setup e (Some b) =
    cost_down (pattern_of rectangle_setup e) (clip_row (clip_rect_of b)) (clip_rect_of b).y (clip_rect_of b).h

unfoldable pub rectangle_cost : Registers → RectangleSetup → Extent → ℕ
rectangle_cost r rectangle_setup e = all_cost rectangle_setup e (rectangle_box r e)

-- ---- segments

-- the cost of the first points of a segment: 2 for each in the drawing area
abbrev pub points_cost : Box2 → Ends → ℕ → ℕ
points_cost area s zero = 0
points_cost area s (suc n) = points_cost area s n + (if is_in area (point_of s n) then 2 else 0)

unfoldable pub ends_cost : Registers → Ends → ℕ
ends_cost r s = if is_near s.first s.second then points_cost (drawing_area r) s (len_of s) else 0

-- ---- packets

-- the cost of a packet that is drawn in spans, in chunks of up to sixteen cells
unfoldable pub draw_cost : Registers → Packet → ℕ
draw_cost r (packet.Poly four a b c d shaded textured semi raw clut page) =
    polygon_cost r (polygon_style shaded textured semi raw clut a) (polygon four a b c d)
draw_cost r (packet.Segment a b semi) = ends_cost r (placed_ends r a b)
draw_cost r (packet.Rect x y w h color textured semi raw u v clut) =
    rectangle_cost r (rectangle_setup_in r (rectangle_style color textured semi raw clut) u v) (extent_at r x y w h)
draw_cost r (packet.Fill color x y w h) = 0
draw_cost r (packet.Copy from to w h) = 0
draw_cost r (packet.Load x y w h) = 0
draw_cost r (packet.Store x y w h) = 0
draw_cost r (packet.Pixels word) = 0
draw_cost r (packet.Env index value) = 0
draw_cost r packet.Irq = 0
draw_cost r packet.Nop = 0
draw_cost r packet.Finish = 0

-- four steps for each cell of the box of each triangle, segment or rectangle
unfoldable pub box_cost : Registers → Packet → ℕ
box_cost r (packet.Poly four a b c d shaded textured semi raw clut page) =
    4 * count_in (triangle_box r (upper_half r (polygon four a b c d)))
    + (if four then 4 * count_in (triangle_box r (lower_half r (polygon four a b c d))) else 0)
box_cost r (packet.Segment a b semi) = 4 * count_in (segment_box r (placed_ends r a b))
box_cost r (packet.Rect x y w h color textured semi raw u v clut) =
    4 * count_in (rectangle_box r (extent_at r x y w h))
box_cost r (packet.Fill color x y w h) = 0
box_cost r (packet.Copy from to w h) = 0
box_cost r (packet.Load x y w h) = 0
box_cost r (packet.Store x y w h) = 0
box_cost r (packet.Pixels word) = 0
box_cost r (packet.Env index value) = 0
box_cost r packet.Irq = 0
box_cost r packet.Nop = 0
box_cost r packet.Finish = 0
