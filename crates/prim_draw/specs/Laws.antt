-- Laws on the cost of packets.
use Rattle.std.specs.Prelude.{ℕ, ◌≤◌, pos, Bool, true, false, if◌then◌else◌}
use Rattle.px_num.specs.declared.shape.Vertex.{Vertex}
use Rattle.gp0_packets.specs.declared.packet.Packet.{Packet}
use Rattle.gp0_packets.specs.declared.packet.Packet.TheVariants as packet
use Rattle.gp1_status.specs.Registers.{Registers, reset}
use Rattle.prim_draw.specs.Costs.{box_cost, draw_cost}

-- a packet costs at most four steps per cell of its boxes
abbrev pub CostLaw : Type 0
CostLaw = (r : Registers) (p : Packet) → draw_cost r p ≤ box_cost r p

-- the registers after a reset, with a drawing area of all 512 rows and this draw mode
abbrev pub open_registers : (e1 : ℕ) → Registers
open_registers e1 = record (reset 0 512) { e1 = e1; bottom_right = 0x7ffff }

-- a rectangle of raw texels, from the first texel of the page on, with the CLUT that begins at (0, 0)
abbrev pub raw_rectangle : (x y w h : ℕ) → Packet
raw_rectangle x y w h = packet.Rect (pos x) (pos y) w h 0 true false true 0 0 0

abbrev pub white_at : ℕ → ℕ → Vertex
white_at x y = record { x = pos x; y = pos y; color = 0xffffff; u = 0; v = 0 }

-- a white square, or its upper left half; its sides are eight cells long
abbrev pub white_half : (four semi : Bool) → Packet
white_half four semi =
    packet.Poly four (white_at 0 0) (white_at 8 0) (white_at 0 8) (if four then white_at 8 8 else white_at 0 8)
    false false semi false 0 0
