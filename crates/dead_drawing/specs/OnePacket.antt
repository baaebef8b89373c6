-- The law of one packet.
use Rattle.std.specs.Prelude.{◌≡◌, ℕ, ◌%◌, true, List, [], ◌∷◌, ◌++◌, Option, None, Some, map, length, slice_index}
use Rattle.px_num.specs.declared.shape.Box2.{Box2}
use Rattle.gp0_words.specs.Items.{pending_behind}
use Rattle.gp0_words.specs.Kinds.{first_len_of}
use Rattle.gp0_words.specs.declared.item.Item.{Item}
use Rattle.gp0_words.specs.declared.pending.Pending.TheVariants as pending
use Rattle.gp0_packets.specs.Packets.{packet_of, whole_of}
use Rattle.gp0_packets.specs.declared.packet.Packet.TheVariants as packet
use Rattle.gpu_capture.specs.declared.event.Event.{Event}
use Rattle.gpu_capture.specs.declared.event.Event.TheVariants as event
use Rattle.gpu_core.specs.Machine.{State, new_item}
use Rattle.prim_draw.specs.Areas.{area_of, moved_box}
use Rattle.span_lanes.specs.Figures.Boxes.{LiesInBox}
use Rattle.event_play.specs.Alike.{AreAlike, replay_of}
use Rattle.event_play.specs.Ports.{AreAtPorts}
use Rattle.event_play.specs.Step.{Machine}
use Rattle.dead_drawing.specs.Calm.{AreCalm}
use Rattle.dead_drawing.specs.Dead.{is_droppable}
use Rattle.dead_drawing.specs.Run.{run}

-- the words of one whole droppable packet
pub record IsDroppable (words : List ℕ) : Type 0 where
  pub kind : is_droppable (slice_index words 0) ≡ true
  pub whole : length words ≡ first_len_of (slice_index words 0)

-- a box contains another, or there is nothing to contain
abbrev pub Holds : Option Box2 → Option Box2 → Type 0
Holds outer None = Unit {0}
Holds None (Some inner) = ⊥
Holds (Some outer) (Some inner) = LiesInBox outer inner

-- this word completes a fill whose area contains a box
pub record Covers (s : State) (word : ℕ) (area : Option Box2) : Type 0 where
  pub item : Item
  pub is : new_item s.words word ≡ Some item
  pub color : ℕ
  pub x : ℕ
  pub y : ℕ
  pub w : ℕ
  pub h : ℕ
  pub fill : packet_of s.parts.regs.height item ≡ packet.Fill color x y w h
  pub holds : Holds (moved_box x y w h) area

-- events that read no other cells, and then a word that completes a fill whose area contains a box
pub record IsCovered (s : State) (events : List Event) (area : Option Box2) : Type 0 where
  pub between : List Event
  pub word : ℕ
  pub parts : events ≡ between ++ event.Gp0 word ∷ []
  pub calm : AreCalm s between
  pub covers : Covers (run s between) word area

-- The packet `words`, which starts with nothing pending, is not seen by the events `after` after it: the last of them
-- covers its area, or there are none and it draws nothing.
abbrev pub IsUnseen : State → (words : List ℕ) → (following : List Event) → Type 0
IsUnseen s words [] = area_of s.parts.regs (whole_of s.parts.regs.height words) ≡ None
IsUnseen s words (e ∷ events) =
    IsCovered (run s (map event.Gp0 words)) (e ∷ events) (area_of s.parts.regs (whole_of s.parts.regs.height words))

-- The list is: events `a`, the words of a packet, events `b` up to the fill that covers it, and further events `c`.
-- Without the packet, it is replayed alike, from every machine whose video memory has whole rows.
abbrev pub PacketsAreUnseen : Type 0
PacketsAreUnseen =
    (s : Machine) (a b c : List Event) (words : List ℕ)
    → AreAtPorts a → AreAtPorts b → AreAtPorts c → IsDroppable words
    → length s.gpu.parts.m % 1024 ≡ 0
    → pending_behind (run s.gpu a).words ≡ pending.Idle
    → IsUnseen (run s.gpu a) words b
    → AreAlike (replay_of s (a ++ (b ++ c))).replay (replay_of s (a ++ (map event.Gp0 words ++ (b ++ c)))).replay
