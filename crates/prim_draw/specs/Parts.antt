-- The fields of a packet that determine its pixels, and those that determine its position.
use Rattle.std.specs.Prelude.{ℕ, Bool, false}
use Rattle.px_num.specs.declared.shape.Vertex.{Vertex}
use Rattle.gp0_packets.specs.declared.packet.Packet.{Packet}
use Rattle.gp0_packets.specs.declared.packet.Packet.TheVariants as packet
use Rattle.prim_draw.specs.declared.primitives.Polygon.{Polygon}
use Rattle.prim_draw.specs.declared.settings.Style.{Style}

-- the style of a polygon; its flat colour is that of its first vertex, the command's
abbrev pub polygon_style : (shaded textured semi raw : Bool) → (clut : ℕ) → Vertex → Style
polygon_style shaded textured semi raw clut a =
    record { shaded = shaded; textured = textured; semi = semi; raw = raw; clut = clut; color = a.color }

-- the style of a rectangle, which has one colour
abbrev pub rectangle_style : (color : ℕ) → (textured semi raw : Bool) → (clut : ℕ) → Style
rectangle_style color textured semi raw clut =
    record { shaded = false; textured = textured; semi = semi; raw = raw; clut = clut; color = color }

abbrev pub polygon : (four : Bool) → (a b c d : Vertex) → Polygon
polygon four a b c d = record { four = four; a = a; b = b; c = c; d = d }

-- the style of other packets: black without a texture
abbrev pub no_style : Style
no_style = record { shaded = false; textured = false; semi = false; raw = false; clut = 0; color = 0 }

-- the style of a packet, which has a meaning only for polygons and rectangles
abbrev pub style_of : Packet → Style
style_of (packet.Poly four a b c d shaded textured semi raw clut page) = polygon_style shaded textured semi raw clut a
style_of (packet.Rect x y w h color textured semi raw u v clut) = rectangle_style color textured semi raw clut
style_of other = no_style
