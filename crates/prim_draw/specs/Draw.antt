-- What a packet draws.
use Rattle.std.specs.Prelude.{ℕ, List}
use Rattle.gp0_packets.specs.declared.packet.Packet.{Packet}
use Rattle.gp0_packets.specs.declared.packet.Packet.TheVariants as packet
use Rattle.gp1_status.specs.Registers.{Registers}
use Rattle.prim_draw.specs.Lines.{drawn_ends, placed_ends}
use Rattle.prim_draw.specs.Parts.{polygon, polygon_style, rectangle_style}
use Rattle.prim_draw.specs.Rectangles.{drawn_rectangle, extent_at, rectangle_setup_in}
use Rattle.prim_draw.specs.Triangles.{drawn_polygon}

-- a packet draws a polygon, a line or a rectangle; other packets draw nothing. The registers already contain the page
-- attribute of a polygon.
unfoldable pub drawn_packet : Registers → Packet → List ℕ → List ℕ
drawn_packet r (packet.Poly four a b c d shaded textured semi raw clut page) m =
    drawn_polygon r (polygon_style shaded textured semi raw clut a) (polygon four a b c d) m
drawn_packet r (packet.Segment a b semi) m = drawn_ends r semi (placed_ends r a b) m
drawn_packet r (packet.Rect x y w h color textured semi raw u v clut) m =
    drawn_rectangle r (rectangle_setup_in r (rectangle_style color textured semi raw clut) u v) (extent_at r x y w h) m
drawn_packet r (packet.Fill color x y w h) m = m
drawn_packet r (packet.Copy from to w h) m = m
drawn_packet r (packet.Load x y w h) m = m
drawn_packet r (packet.Store x y w h) m = m
drawn_packet r (packet.Pixels word) m = m
drawn_packet r (packet.Env index value) m = m
drawn_packet r packet.Irq m = m
drawn_packet r packet.Nop m = m
drawn_packet r packet.Finish m = m
