-- Flat events use only the ports.
use Rattle.std.proofs.Common.{◌++◌, ℕ, zero, suc, List, [], ◌∷◌, map, replicate, Result, Ok, Err}
use Rattle.gpu_capture.specs.declared.event.Event.{Event}
use Rattle.gpu_capture.specs.declared.event.Event.TheVariants as event
use Rattle.event_play.specs.Replay.{Replay, after_event}
use Rattle.event_play.specs.Step.{Machine, words_of}
use Rattle.event_play.specs.Operation.{operation_of}
use Rattle.event_play.specs.declared.fault.EventFault.{EventFault}
use Rattle.event_play.specs.declared.operation.Operation.{Operation}
use Rattle.event_play.specs.declared.operation.Operation.TheVariants as operation
use Rattle.event_play.specs.Ports.{AreAtPorts}
use Rattle.capture_flat.specs.Flat.{flat_events, flat_replay, flat_operation, flat_asked, then_flat}

words_ports : (words : List ℕ) → AreAtPorts (map event.Gp0 words)
words_ports [] = tt
words_ports (word ∷ words) = (tt, words_ports words)

skips_ports : (n : ℕ) → AreAtPorts (replicate n event.Skip)
skips_ports zero = tt
skips_ports (suc n) = (tt, skips_ports n)

operation_ports : (ram : List ℕ) (asked : Operation) → AreAtPorts (flat_operation ram asked)
operation_ports ram operation.Nothing = tt
operation_ports ram (operation.Put address word) = tt
operation_ports ram (operation.Feed asked next) = words_ports (words_of ram asked)
operation_ports ram (operation.Take block next) = skips_ports block.n
operation_ports ram (operation.Control word) = (tt, tt)
operation_ports ram operation.Read = (tt, tt)
operation_ports ram operation.Skip = (tt, tt)
operation_ports ram operation.Stat = (tt, tt)
operation_ports ram (operation.Clear madr n) = tt
operation_ports ram (operation.Begin next) = tt

asked_ports : (ram : List ℕ) (asked : Result Operation EventFault) → AreAtPorts (flat_asked ram asked)
asked_ports ram (Ok asked) = operation_ports ram asked
asked_ports ram (Err fault) = tt

event_ports : (s : Machine) (given : Event) → AreAtPorts (flat_events s given)
unfolding flat_events
event_ports s given = asked_ports s.ram (operation_of s.ram s.running given)

both_ports : (xs ys : List Event) → AreAtPorts xs → AreAtPorts ys → AreAtPorts (xs ++ ys)
both_ports [] ys first next = next
both_ports (x ∷ xs) ys first next = (first.0, both_ports xs ys first.1 next)

then_ports : (r : Result Replay EventFault) (on : Replay → List Event) → ((next : Replay) → AreAtPorts (on next))
    → AreAtPorts (then_flat r on)
then_ports (Ok next) on ports = ports next
then_ports (Err fault) on ports = tt

pub all_ports : (events : List Event) (t : Replay) → AreAtPorts (flat_replay t events)
all_ports [] t = tt
all_ports (given ∷ events) t =
    both_ports (flat_events t.state given) (then_flat (after_event t given) (λ next. flat_replay next events))
    (event_ports t.state given)
    (then_ports (after_event t given) (λ next. flat_replay next events) (λ next. all_ports events next))
