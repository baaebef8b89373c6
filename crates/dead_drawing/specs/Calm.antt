-- Events that read no cell of video memory except to change that cell.
use Rattle.std.specs.Prelude.{ℕ, List, [], ◌∷◌, Option, None, Some}
use Rattle.gp0_words.specs.declared.item.Item.{Item}
use Rattle.gp0_packets.specs.Packets.{packet_of}
use Rattle.gp0_packets.specs.declared.packet.Packet.{Packet}
use Rattle.gp0_packets.specs.declared.packet.Packet.TheVariants as packet
use Rattle.gpu_capture.specs.declared.event.Event.{Event}
use Rattle.gpu_capture.specs.declared.event.Event.TheVariants as event
use Rattle.gpu_core.specs.Machine.{State, new_item}
use Rattle.prim_draw.specs.Staying.{IsUnset}
use Rattle.dead_drawing.specs.Run.{after}

abbrev pub IsCalm : Packet → Type 0
IsCalm (packet.Poly four a b c d shaded textured semi raw clut page) = IsUnset textured
IsCalm (packet.Rect x y w h color textured semi raw u v clut) = IsUnset textured
IsCalm (packet.Copy from to w h) = ⊥
IsCalm (packet.Store x y w h) = ⊥
IsCalm other = Unit {0}

abbrev pub IsCalmItem : (height : ℕ) → Option Item → Type 0
IsCalmItem height None = Unit {0}
IsCalmItem height (Some item) = IsCalm (packet_of height item)

-- The event is no read of GPUREAD, and completes no item that reads other cells.
abbrev pub IsCalmAt : State → Event → Type 0
IsCalmAt s (event.Gp0 word) = IsCalmItem s.parts.regs.height (new_item s.words word)
IsCalmAt s (event.Gp1 word) = Unit {0}
IsCalmAt s event.Stat = Unit {0}
IsCalmAt s other = ⊥

abbrev pub AreCalm : State → List Event → Type 0
AreCalm s [] = Unit {0}
AreCalm s (e ∷ events) = IsCalmAt s e × AreCalm (after s e) events
