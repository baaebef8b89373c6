-- Slots updated by the effect of an event (our own rule).
use Rattle.std.specs.Prelude.{◌≡◌, ◌≤◌, ℕ, ◌+◌, Option, Some, None, List, [], ◌∷◌, ◌++◌, length}
use Rattle.px_num.specs.declared.shape.Box2.{Box2}
use Rattle.circular_buffer.specs.Buffer.{Buffer}
use Rattle.capture_slim.specs.Effect.{settle_by}
use Rattle.capture_slim.specs.declared.effect.Effect.{Effect}
use Rattle.capture_slim.specs.declared.effect.Effect.TheVariants.{MayRead}
use Rattle.capture_slim.specs.declared.slot.Mark.{Mark}
use Rattle.capture_slim.specs.declared.slot.Mark.TheVariants.{Dropped, Open}
use Rattle.capture_slim.specs.declared.slot.Slot.{Slot}

-- slots with `after` more events after them
abbrev pub settled_by : List Slot → (after : ℕ) → Effect → List Slot
settled_by [] after say = []
settled_by (s ∷ slots) after say =
    record { event = s.event; mark = settle_by s.mark (length slots + after) say } ∷ settled_by slots after say

-- a slot after an event that may read what was drawn
abbrev pub shut : Slot → Slot
shut s = record { event = s.event; mark = settle_by s.mark 0 MayRead }

abbrev pub all_shut : List Slot → List Slot
all_shut [] = []
all_shut (s ∷ slots) = shut s ∷ all_shut slots

-- the first slot is updated and moved to the end
abbrev pub turned : List Slot → (age : ℕ) → Effect → List Slot
turned [] age say = []
turned (s ∷ slots) age say = slots ++ record { event = s.event; mark = settle_by s.mark age say } ∷ []

-- the mark of word i of a packet
abbrev pub mark_of : Option Box2 → ℕ → Mark
mark_of None i = Dropped
mark_of (Some area) i = Open area i

-- a mark that no event changes
abbrev pub IsSettled : Mark → Type 0
IsSettled (Open area i) = ⊥
IsSettled other = Unit {0}

abbrev pub AreSettled : List Slot → Type 0
AreSettled [] = Unit {0}
AreSettled (s ∷ slots) = IsSettled s.mark × AreSettled slots

-- the capacity in slots: the window's 4,096 and 32 more, enough for the words of a packet
abbrev pub room : ℕ
room = 4128

-- slots with final marks, and the later ones, which may be open: either part has room for all
pub record KeepsSlots (settled recent : Buffer Slot) : Type 0 where
  pub settled_room : settled.capacity ≡ room
  pub recent_room : recent.capacity ≡ room
  pub fits : length settled.items + length recent.items ≤ room
  pub are : AreSettled settled.items
