-- The area of a packet (our own rule): the box of the cells that it may change, with corners that are not wrapped.
use Rattle.std.specs.Prelude.{ℕ, ◌+◌, ◌-◌, ◌==◌, ◌||◌, pos, Option, None, Some, if◌then◌else◌}
use Rattle.std.specs.Int.{int_min, int_max}
use Rattle.px_num.specs.declared.shape.Box2.{Box2}
use Rattle.gp0_packets.specs.declared.packet.Packet.{Packet}
use Rattle.gp0_packets.specs.declared.packet.Packet.TheVariants as packet
use Rattle.gp1_status.specs.Registers.{Registers}
use Rattle.prim_draw.specs.Lines.{placed_ends, segment_box}
use Rattle.prim_draw.specs.Parts.{polygon}
use Rattle.prim_draw.specs.Rectangles.{extent_at, rectangle_box}
use Rattle.prim_draw.specs.Triangles.{lower_half, triangle_box, upper_half}
use Rattle.prim_draw.specs.declared.primitives.Polygon.{Polygon}

-- the box of w by h cells from (x, y) on, or none without a cell
unfoldable pub moved_box : (x y w h : ℕ) → Option Box2
moved_box x y w h =
    if (w == 0) || (h == 0) then None else
    Some (record { x1 = pos x; y1 = pos y; x2 = pos (x + w - 1); y2 = pos (y + h - 1) })

-- the smallest box that contains two others
unfoldable pub hull : Box2 → Box2 → Box2
hull a b = record {
  x1 = int_min a.x1 b.x1;
  y1 = int_min a.y1 b.y1;
  x2 = int_max a.x2 b.x2;
  y2 = int_max a.y2 b.y2;
}

-- the hull of two boxes, either of which may be none
abbrev pub joined : Option Box2 → Option Box2 → Option Box2
joined None b = b
joined (Some a) None = Some a
joined (Some a) (Some b) = Some (hull a b)

-- the box of a triangle; for a quad, the hull of the boxes of both triangles
unfoldable pub polygon_area : Registers → Polygon → Option Box2
polygon_area r p =
    if p.four then joined (triangle_box r (upper_half r p)) (triangle_box r (lower_half r p))
    else triangle_box r (upper_half r p)

unfoldable pub area_of : Registers → Packet → Option Box2
area_of r (packet.Poly four a b c d shaded textured semi raw clut page) = polygon_area r (polygon four a b c d)
area_of r (packet.Segment a b semi) = segment_box r (placed_ends r a b)
area_of r (packet.Rect x y w h color textured semi raw u v clut) = rectangle_box r (extent_at r x y w h)
area_of r (packet.Fill color x y w h) = moved_box x y w h
area_of r (packet.Copy from to w h) = moved_box to.x to.y w h
area_of r (packet.Load x y w h) = moved_box x y w h
area_of r (packet.Store x y w h) = moved_box x y w h
area_of r (packet.Pixels word) = None
area_of r (packet.Env index value) = None
area_of r packet.Irq = None
area_of r packet.Nop = None
area_of r packet.Finish = None
