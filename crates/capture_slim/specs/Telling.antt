-- The area of the packet that an event completes (our own rule).
use Rattle.std.specs.Prelude.{◌≤◌, ◌+◌, Option, Some, None, length, List, [], ◌∷◌}
use Rattle.px_num.specs.declared.shape.Box2.{Box2}
use Rattle.gp0_words.specs.Next.{next_item}
use Rattle.gp0_words.specs.declared.item.Item.{Item}
use Rattle.gp0_packets.specs.Packets.{packet_of}
use Rattle.gp1_status.specs.Registers.{Registers}
use Rattle.gpu_capture.specs.declared.event.Event.{Event}
use Rattle.gpu_capture.specs.declared.event.Event.TheVariants as event
use Rattle.event_play.specs.Ports.{IsAtPorts}
use Rattle.prim_draw.specs.Areas.{area_of}
use Rattle.dead_drawing.specs.Control.{Control}
use Rattle.dead_drawing.specs.Dead.{window_events}
use Rattle.capture_slim.specs.declared.slot.Slot.{Slot}
use Rattle.capture_slim.specs.Window.{Window, IsBegun}

abbrev pub area_by : Registers → Option Item → Option Box2
area_by r None = None
area_by r (Some item) = area_of r (packet_of r.height item)

-- the area of the packet that an event completes, given the registers before it
abbrev pub area_at : Control → Event → Option Box2
area_at c (event.Gp0 word) = area_by c.regs (next_item c.pending word)
area_at c other = None

-- slots of port events
abbrev pub HoldPorts : List Slot → Type 0
HoldPorts [] = Unit {0}
HoldPorts (s ∷ slots) = IsAtPorts s.event × HoldPorts slots

-- what always holds of the window
pub record KeepsWindow (w : Window) : Type 0 where
  pub ports : HoldPorts w.slots
  pub few : length w.slots + length w.words ≤ window_events
  pub begun : IsBegun w.words w.control
