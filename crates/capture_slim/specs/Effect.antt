-- The effects of events on the packets drawn before them (our own rule).
use Rattle.std.specs.Prelude.{ℕ, ◌+◌, Bool, true, false, Option, Some, None, if◌then◌else◌, nat_lt}
use Rattle.px_num.specs.declared.shape.Box2.{Box2}
use Rattle.gp0_words.specs.Next.{next_item}
use Rattle.gp0_words.specs.declared.item.Item.{Item}
use Rattle.gp0_packets.specs.Packets.{packet_of}
use Rattle.gp0_packets.specs.declared.packet.Packet.{Packet}
use Rattle.gp0_packets.specs.declared.packet.Packet.TheVariants as packet
use Rattle.gpu_capture.specs.declared.event.Event.{Event}
use Rattle.gpu_capture.specs.declared.event.Event.TheVariants as event
use Rattle.prim_draw.specs.Areas.{moved_box}
use Rattle.dead_drawing.specs.Control.{Control}
use Rattle.dead_drawing.specs.Dead.{holds_box, window_events}
use Rattle.capture_slim.specs.declared.effect.Effect.{Effect}
use Rattle.capture_slim.specs.declared.effect.Effect.TheVariants.{Nothing, MayRead, Cover}
use Rattle.capture_slim.specs.declared.slot.Mark.{Mark}
use Rattle.capture_slim.specs.declared.slot.Mark.TheVariants.{Kept, Dropped, Open}

abbrev pub cover_of : Option Box2 → Effect
cover_of None = Nothing
cover_of (Some area) = Cover area

abbrev pub may_read_if : Bool → Effect
may_read_if b = if b then MayRead else Nothing

abbrev pub packet_effect : Packet → Effect
packet_effect (packet.Fill color x y w h) = cover_of (moved_box x y w h)
packet_effect (packet.Poly four a b c d shaded textured semi raw clut page) = may_read_if textured
packet_effect (packet.Rect x y w h color textured semi raw u v clut) = may_read_if textured
packet_effect (packet.Copy from to w h) = MayRead
packet_effect (packet.Store x y w h) = MayRead
packet_effect other = Nothing

abbrev pub item_effect : (height : ℕ) → Option Item → Effect
item_effect height None = Nothing
item_effect height (Some item) = packet_effect (packet_of height item)

abbrev pub event_effect : Control → Event → Effect
event_effect c (event.Gp0 word) = item_effect c.regs.height (next_item c.pending word)
event_effect c (event.Gp1 word) = Nothing
event_effect c event.Stat = Nothing
event_effect c other = MayRead

abbrev pub covers : Effect → Box2 → Bool
covers (Cover area) inner = holds_box area inner
covers other inner = false

abbrev pub reads_nothing : Effect → Bool
reads_nothing MayRead = false
reads_nothing other = true

abbrev pub settle_by : Mark → (age : ℕ) → Effect → Mark
settle_by (Open area i) age MayRead = Kept
settle_by (Open area i) age (Cover cover) =
    if holds_box cover area then (if nat_lt (age + i) window_events then Dropped else Kept) else Open area i
settle_by mark age say = mark
