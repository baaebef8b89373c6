-- Events without main memory and DMA, made from events during their replay (our own rule).
use Rattle.std.specs.Prelude.{ℕ, List, [], ◌∷◌, ◌++◌, map, replicate, Result, Ok, Err}
use Rattle.gpu_capture.specs.declared.event.Event.{Event}
use Rattle.gpu_capture.specs.declared.event.Event.TheVariants as event
use Rattle.event_play.specs.Replay.{Replay, after_event}
use Rattle.event_play.specs.Step.{Machine, words_of}
use Rattle.event_play.specs.Operation.{operation_of}
use Rattle.event_play.specs.declared.fault.EventFault.{EventFault}
use Rattle.event_play.specs.declared.operation.Operation.{Operation}
use Rattle.event_play.specs.declared.operation.Operation.TheVariants as operation

-- The effect of an operation at the ports. `ram`: main memory before it. Each word written to a port is a Gp0 or Gp1
-- event, each shown word a Read or Stat event. A read that is not shown and each word that goes to main memory is a
-- Skip event.
abbrev pub flat_operation : List ℕ → Operation → List Event
flat_operation ram operation.Nothing = []
flat_operation ram (operation.Put address word) = []
flat_operation ram (operation.Feed asked next) = map event.Gp0 (words_of ram asked)
flat_operation ram (operation.Take block next) = replicate block.n event.Skip
flat_operation ram (operation.Control word) = event.Gp1 word ∷ []
flat_operation ram operation.Read = event.Read ∷ []
flat_operation ram operation.Skip = event.Skip ∷ []
flat_operation ram operation.Stat = event.Stat ∷ []
flat_operation ram (operation.Clear madr n) = []
flat_operation ram (operation.Begin next) = []

abbrev pub flat_asked : List ℕ → Result Operation EventFault → List Event
flat_asked ram (Ok asked) = flat_operation ram asked
flat_asked ram (Err fault) = []

-- the flat events of an event on the machine `s`; none if the event has a fault
unfoldable pub flat_events : Machine → Event → List Event
flat_events s event = flat_asked s.ram (operation_of s.ram s.running event)

abbrev pub then_flat : Result Replay EventFault → (Replay → List Event) → List Event
then_flat (Ok next) on = on next
then_flat (Err fault) on = []

-- the flat events of a list of events, up to the first fault
abbrev pub flat_replay : Replay → List Event → List Event
flat_replay t [] = []
flat_replay t (event ∷ events) = flat_events t.state event
    ++ then_flat (after_event t event) (λ next. flat_replay next events)
