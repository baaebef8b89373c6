-- Events that enter and leave the window one by one (our own rule).
use Rattle.std.specs.Prelude.{◌≡◌, ◌≤◌, ℕ, List, [], ◌∷◌, ◌++◌, Option, None, ◌+◌, nat_lt, length, if◌then◌else◌}
use Rattle.gpu_capture.specs.declared.event.Event.{Event}
use Rattle.dead_drawing.specs.Dead.{window_events}
use Rattle.capture_slim.specs.declared.slot.Slot.{Slot}
use Rattle.capture_slim.specs.Places.{places, slim_first}
use Rattle.capture_slim.specs.Window.{Window, all_left, first_window, left_of, pushed, waiting}

-- the first slot leaves if there are more than 4,096 events
abbrev pub leaving_from : List Slot → List ℕ → List (Option Event)
leaving_from [] words = []
leaving_from (s ∷ slots) words =
    if nat_lt (length slots + length words) window_events then [] else left_of s.event s.mark ∷ []

abbrev pub staying_from : List Slot → List ℕ → List Slot
staying_from [] words = []
staying_from (s ∷ slots) words = if nat_lt (length slots + length words) window_events then s ∷ slots else slots

abbrev pub leaving : Window → List (Option Event)
leaving w = leaving_from w.slots w.words

abbrev pub staying : Window → Window
staying w = record { slots = staying_from w.slots w.words; words = w.words; control = w.control }

-- the event of the first slot, unless it was dropped
abbrev pub first_left : List Slot → Option Event
first_left [] = None
first_left (s ∷ slots) = left_of s.event s.mark

-- the words are moved to the slots
abbrev pub closed : Window → Window
closed w = record { slots = waiting w; words = []; control = w.control }

-- what leaves the window while these events enter it
abbrev pub outs : List Event → Window → List (Option Event)
outs [] w = []
outs (e ∷ events) w = leaving (pushed w e) ++ outs events (staying (pushed w e))

-- the window after them
abbrev pub window_after : List Event → Window → Window
window_after [] w = w
window_after (e ∷ events) w = window_after events (staying (pushed w e))

-- What has left the window is final, whatever follows. With what remains at the end, it is each event at its position.
abbrev pub StreamLaw : Type 0
StreamLaw = (height : ℕ) (events : List Event) → places height events
    ≡ outs events (first_window height) ++ all_left (waiting (window_after events (first_window height)))

abbrev pub LeavesLaw : Type 0
LeavesLaw = (height : ℕ) (events more : List Event) → (rest : List (Option Event))
    × (places height (events ++ more) ≡ outs events (first_window height) ++ rest)

-- Which of the first `number` events stay is final once 4,096 more events have entered.
abbrev pub DueLaw : Type 0
DueLaw = (height number : ℕ) (events more : List Event) → number + window_events ≤ length events
    → slim_first height number (events ++ more) ≡ slim_first height number events
