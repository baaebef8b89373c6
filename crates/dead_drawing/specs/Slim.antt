-- A list of events without its dead packets (our own rule).
use Rattle.std.specs.Prelude.{ℕ, zero, suc, List, [], ◌∷◌}
use Rattle.gpu_capture.specs.declared.event.Event.{Event}
use Rattle.dead_drawing.specs.Control.{Control, controlled, first_control}
use Rattle.dead_drawing.specs.Dead.{dead_len}

-- `dead`: the number of words of the dead packet that starts at `e`, 0 if there is none. Keeps `e`, or skips the
-- packet.
abbrev pub kept_by : (dead : ℕ) → Event → (ℕ → List Event) → List Event
kept_by zero e rest = e ∷ rest 0
kept_by (suc skip) e rest = rest skip

-- the events from a control on; the first `skip` of them belong to a dead packet that started before them
abbrev pub slim_from : List Event → Control → (skip : ℕ) → List Event
slim_from [] c skip = []
slim_from (e ∷ events) c (suc skip) = slim_from events (controlled c e) skip
slim_from (e ∷ events) c zero = kept_by (dead_len c (e ∷ events)) e (λ skip. slim_from events (controlled c e) skip)

-- the events without the dead packets, replayed from the registers after a reset
unfoldable pub slim_events : (height : ℕ) → List Event → List Event
slim_events height events = slim_from events (first_control height) 0
