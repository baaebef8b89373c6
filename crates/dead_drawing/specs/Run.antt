-- The effect of events of the ports on the GPU alone. They have no fault and do not change main memory.
use Rattle.std.specs.Prelude.{ℕ, List, [], ◌∷◌, ◌++◌}
use Rattle.gpu_capture.specs.declared.event.Event.{Event}
use Rattle.gpu_capture.specs.declared.event.Event.TheVariants as event
use Rattle.gpu_core.specs.Machine.{State, after_gp0, after_gp1, after_read, read_word, status_word}

-- the state after an event
unfoldable pub after : State → Event → State
after s (event.Gp0 word) = after_gp0 s word
after s (event.Gp1 word) = after_gp1 s word
after s event.Read = after_read s
after s event.Skip = after_read s
after s other = s

-- the word that an event shows, if any
unfoldable pub shown_at : State → Event → List ℕ
shown_at s event.Read = read_word s ∷ []
shown_at s event.Stat = status_word s ∷ []
shown_at s other = []

-- the state after events; below, the words that they show
abbrev pub run : State → List Event → State
run s [] = s
run s (e ∷ events) = run (after s e) events

abbrev pub told : State → List Event → List ℕ
told s [] = []
told s (e ∷ events) = shown_at s e ++ told (after s e) events
