-- Which events of a list stay at their positions when its dead packets are dropped (our own rule).
use Rattle.std.specs.Prelude.{◌≡◌, ℕ, zero, suc, List, [], ◌∷◌, Option, Some, None, take}
use Rattle.gpu_capture.specs.declared.event.Event.{Event}
use Rattle.dead_drawing.specs.Control.{Control, controlled, first_control}
use Rattle.dead_drawing.specs.Dead.{dead_len}
use Rattle.dead_drawing.specs.Slim.{slim_events}

-- `dead`: the number of words of the dead packet that starts with e, or 0. `rest`: the other events, given how many of
-- them to skip.
abbrev pub placed_by : (dead : ℕ) → Event → (ℕ → List (Option Event)) → List (Option Event)
placed_by zero e rest = Some e ∷ rest 0
placed_by (suc skip) e rest = None ∷ rest skip

-- each event that stays, and None for each word of a dead packet; the first `skip` events belong to an earlier packet
abbrev pub places_from : List Event → Control → (skip : ℕ) → List (Option Event)
places_from [] c skip = []
places_from (e ∷ events) c (suc skip) = None ∷ places_from events (controlled c e) skip
places_from (e ∷ events) c zero =
    placed_by (dead_len c (e ∷ events)) e (λ skip. places_from events (controlled c e) skip)

unfoldable pub places : (height : ℕ) → List Event → List (Option Event)
places height events = places_from events (first_control height) 0

-- the events that stay
abbrev pub kept_of : List (Option Event) → List Event
kept_of [] = []
kept_of (None ∷ rest) = kept_of rest
kept_of (Some e ∷ rest) = e ∷ kept_of rest

-- those of the first n events that stay, given all events
abbrev pub slim_first : (height n : ℕ) → List Event → List Event
slim_first height n events = kept_of (take n (places height events))

-- those that stay are the list without its dead packets
abbrev pub PlacesLaw : Type 0
PlacesLaw = (height : ℕ) (events : List Event) → kept_of (places height events) ≡ slim_events height events
