-- The window of waiting events: what is known of them from the events so far (our own rule).
use Rattle.std.specs.Prelude.{◌≡◌, ◌<◌, ℕ, suc, ◌+◌, ◌-◌, ◌&&◌, Bool, true, List, [], ◌∷◌, ◌++◌, Option, Some, None}
use Rattle.std.specs.Prelude.{if◌then◌else◌, nat_lt, length, map, slice_index}
use Rattle.px_num.specs.declared.shape.Box2.{Box2}
use Rattle.gp0_words.specs.Kinds.{first_len_of}
use Rattle.gp0_words.specs.declared.pending.Pending.TheVariants as pending
use Rattle.gp0_packets.specs.Packets.{whole_of}
use Rattle.gpu_capture.specs.declared.event.Event.{Event}
use Rattle.gpu_capture.specs.declared.event.Event.TheVariants as event
use Rattle.gpu_core.specs.Machine.{is_idle}
use Rattle.prim_draw.specs.Areas.{area_of}
use Rattle.dead_drawing.specs.Control.{Control, controlled, first_control}
use Rattle.dead_drawing.specs.Dead.{fills_at, is_calm_at, is_covered, is_droppable, window_events}
use Rattle.capture_slim.specs.declared.queue.Queue.{Queue}
use Rattle.capture_slim.specs.declared.slot.Mark.{Mark}
use Rattle.capture_slim.specs.declared.slot.Mark.TheVariants.{Kept, Dropped, Open}
use Rattle.capture_slim.specs.declared.slot.Slot.{Slot}
use Rattle.capture_slim.specs.Places.{places_from}

-- the slots, the words of an incomplete packet that may be dropped, and the control after them
pub record Window : Type 0 where
  pub slots : List Slot
  pub words : List ℕ
  pub control : Control

abbrev pub within : Queue → Control → Window
within q c = record { slots = q.slots; words = q.words; control = c }

-- ---- an event enters

-- a mark after an event; `age`: the number of events after the slot's, before that event
abbrev pub settle : Mark → (age : ℕ) → Control → Event → Mark
settle Kept age c e = Kept
settle Dropped age c e = Dropped
settle (Open area i) age c e =
    if fills_at c e area then (if nat_lt (age + i) window_events then Dropped else Kept)
    else (if is_calm_at c e then Open area i else Kept)

-- the same for slots with `after` more events after them
abbrev pub settled : List Slot → (after : ℕ) → Control → Event → List Slot
settled [] after c e = []
settled (s ∷ slots) after c e =
    record { event = s.event; mark = settle s.mark (length slots + after) c e } ∷ settled slots after c e

abbrev pub kept : Event → Slot
kept e = record { event = e; mark = Kept }

abbrev pub kept_words : List ℕ → List Slot
kept_words [] = []
kept_words (w ∷ ws) = kept (event.Gp0 w) ∷ kept_words ws

abbrev pub dropped_words : List ℕ → List Slot
dropped_words [] = []
dropped_words (w ∷ ws) = record { event = event.Gp0 w; mark = Dropped } ∷ dropped_words ws

abbrev pub open_words : List ℕ → (offset : ℕ) → Box2 → List Slot
open_words [] i area = []
open_words (w ∷ ws) i area = record { event = event.Gp0 w; mark = Open area i } ∷ open_words ws (suc i) area

-- the words of a packet that is now complete
abbrev pub packet_slots : List ℕ → Option Box2 → List Slot
packet_slots words None = dropped_words words
packet_slots words (Some area) = open_words words 0 area

-- the words of a packet that may be dropped; if they are all of it, its area is given
abbrev pub taken_up : List Slot → (words : List ℕ) → Option Box2 → Queue
taken_up slots words area =
    if nat_lt (length words) (first_len_of (slice_index words 0)) then record { slots = slots; words = words }
    else record { slots = slots ++ packet_slots words area; words = [] }

-- an event that is no word of such a packet; the words before it belong to none either
abbrev pub with_event : List Slot → (words : List ℕ) → Event → Queue
with_event slots words e = record { slots = slots ++ (kept_words words ++ kept e ∷ []); words = [] }

-- a word, after words of such a packet or not
abbrev pub with_word : List Slot → (words : List ℕ) → (word : ℕ) → (idle : Bool) → Option Box2 → Queue
with_word slots [] word idle area =
    if idle && is_droppable word then taken_up slots (word ∷ []) area else with_event slots [] (event.Gp0 word)
with_word slots (v ∷ vs) word idle area = taken_up slots ((v ∷ vs) ++ word ∷ []) area

abbrev pub added : Queue → Event → (idle : Bool) → Option Box2 → Queue
added q (event.Gp0 word) idle area = with_word q.slots q.words word idle area
added q other idle area = with_event q.slots q.words other

-- the area of the packet that consists of these words and one more
abbrev pub area_after : Control → (words : List ℕ) → Event → Option Box2
area_after c words (event.Gp0 word) = area_of c.regs (whole_of c.regs.height (words ++ word ∷ []))
area_after c words other = None

-- the slots are updated by an event
abbrev pub effect_applied : Window → Event → Queue
effect_applied w e = record { slots = settled w.slots (length w.words) w.control e; words = w.words }

unfoldable pub pushed : Window → Event → Window
pushed w e = within (added (effect_applied w e) e (is_idle w.control.pending) (area_after w.control w.words e))
    (controlled w.control e)

-- ---- the final result, given the events that follow

abbrev pub out_of : Event → Mark → (age : ℕ) → Control → List Event → Option Event
out_of e Kept age c following = Some e
out_of e Dropped age c following = None
out_of e (Open area i) age c following =
    if is_covered following c (window_events - (age + i)) area then None else Some e

abbrev pub resolved : List Slot → (after : ℕ) → Control → List Event → List (Option Event)
resolved [] after c following = []
resolved (s ∷ slots) after c following =
    out_of s.event s.mark (length slots + after) c following ∷ resolved slots after c following

-- the control before the first of the words
abbrev pub start_of : List ℕ → Control → Control
start_of [] c = c
start_of (w ∷ ws) c = record { regs = c.regs; pending = pending.Idle }

abbrev pub value : Window → List Event → List (Option Event)
value w following =
    resolved w.slots (length w.words) w.control following
    ++ places_from (map event.Gp0 w.words ++ following) (start_of w.words w.control) 0

-- the words, if any, are all words so far of a packet that may be dropped
abbrev pub IsBegun : List ℕ → Control → Type 0
IsBegun [] c = Unit {0}
IsBegun (w ∷ ws) c =
    (c.pending ≡ pending.Packet (w ∷ ws)) × (is_droppable w ≡ true) × (length (w ∷ ws) < first_len_of w)

abbrev pub first_window : (height : ℕ) → Window
first_window height = record { slots = []; words = []; control = first_control height }

-- the event of a slot, unless it was dropped; no event follows
abbrev pub left_of : Event → Mark → Option Event
left_of e Dropped = None
left_of e Kept = Some e
left_of e (Open area i) = Some e

abbrev pub all_left : List Slot → List (Option Event)
all_left [] = []
all_left (s ∷ slots) = left_of s.event s.mark ∷ all_left slots

-- all waiting events
abbrev pub waiting : Window → List Slot
waiting w = w.slots ++ kept_words w.words
