-- The area of a polygon does not depend on the draw mode.
use Rattle.std.proofs.Common.{◌≡◌, ℕ, Bool, true, false, refl}
use Rattle.px_num.specs.declared.shape.Vertex.{Vertex}
use Rattle.gp0_packets.specs.declared.packet.Packet.TheVariants.{Poly}
use Rattle.gp1_status.specs.Registers.{Registers}
use Rattle.prim_draw.specs.Areas.{area_of, polygon_area}
use Rattle.gp1_status.specs.Drawing.{drawing_area}
use Rattle.prim_draw.specs.Settings.{placed}
use Rattle.prim_draw.specs.Triangles.{triangle_box}
use Rattle.gpu_core.specs.Machine.{with_page}

pub area_with_page : (r : Registers) (t : Bool) (attribute : ℕ) (four : Bool) (a b c d : Vertex)
    (shaded textured semi raw : Bool) (clut page : ℕ)
    → area_of (with_page r t attribute) (Poly four a b c d shaded textured semi raw clut page)
    ≡ area_of r (Poly four a b c d shaded textured semi raw clut page)
unfolding area_of polygon_area triangle_box placed drawing_area
area_with_page r true attribute four a b c d shaded textured semi raw clut page = refl
area_with_page r false attribute four a b c d shaded textured semi raw clut page = refl
