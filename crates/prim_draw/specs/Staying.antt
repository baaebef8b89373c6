-- The cells that drawing changes, and those that it reads.
use Rattle.std.specs.Prelude.{ℕ, List, Bool, true, false}
use Rattle.gp0_packets.specs.declared.packet.Packet.{Packet}
use Rattle.gp0_packets.specs.declared.packet.Packet.TheVariants as packet
use Rattle.gp1_status.specs.Registers.{Registers}
use Rattle.prim_draw.specs.Areas.{area_of}
use Rattle.prim_draw.specs.Draw.{drawn_packet}
use Rattle.prim_draw.specs.Apart.{AgreeOutside, SameAt}

-- no cell outside a packet's area changes; without an area, no cell changes
abbrev pub DrawingStays : Type 0
DrawingStays = (r : Registers) (p : Packet) (m : List ℕ) → AgreeOutside (area_of r p) m (drawn_packet r p m)

-- a flag of a packet is not set
abbrev pub IsUnset : Bool → Type 0
IsUnset true = ⊥
IsUnset false = Unit {0}

-- a packet samples no texture
abbrev pub IsUntextured : Packet → Type 0
IsUntextured (packet.Poly four a b c d shaded textured semi raw clut page) = IsUnset textured
IsUntextured (packet.Rect x y w h color textured semi raw u v clut) = IsUnset textured
IsUntextured other = Unit {0}

-- if two states are equal at a cell, they are equal there after the same drawing without texture
abbrev pub DrawingIsLocal : Type 0
DrawingIsLocal = (r : Registers) (p : Packet) (k : ℕ) (m now : List ℕ) → IsUntextured p → SameAt k m now
    → SameAt k (drawn_packet r p m) (drawn_packet r p now)
