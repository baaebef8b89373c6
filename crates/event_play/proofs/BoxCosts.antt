-- The two bounds of store steps compared.
use Rattle.std.proofs.Common.{◌≤◌, ℕ, zero, suc, ◌+◌, List, [], ◌∷◌, Result, Ok, Err, arith}
use Rattle.gpu_capture.specs.declared.event.Event.{Event}
use Rattle.gpu_core.specs.Machine.{State, after_gp0}
use Rattle.gpu_core.proofs.BoxCosts.{gp0_cost-small, read_cost-small}
use Rattle.event_play.specs.Costs.{CostsAreSmall}
use Rattle.event_play.specs.Fed.{fed_cost, fed_box_cost}
use Rattle.event_play.specs.Out.{out_cost, out_box_cost}
use Rattle.event_play.specs.Replay.{Played, played_events, played_after, next_number, raised, from_state}
use Rattle.event_play.specs.Step.{Machine, event_step, event_cost, event_box_cost, step_cost, step_box_cost}
use Rattle.event_play.specs.Step.{operation_cost}
use Rattle.event_play.specs.Step.{operation_box_cost, words_of}
use Rattle.event_play.specs.Taken.{first_taken}
use Rattle.event_play.specs.Operation.{operation_of}
use Rattle.event_play.specs.declared.block.Block.{Block}
use Rattle.event_play.specs.declared.ending.Ending.TheVariants.{Faulted}
use Rattle.event_play.specs.declared.fault.EventFault.{EventFault}
use Rattle.event_play.specs.declared.ending.Mode.{Mode}
use Rattle.event_play.specs.declared.operation.Operation.{Operation}
use Rattle.event_play.specs.declared.operation.Operation.TheVariants as operation
use Rattle.event_play.proofs.Grows.{along}
use Rattle.event_play.proofs.Firsts.{raised_first, from_first}
use Rattle.gpu_capture.specs.Reader.{capture_from}
use Rattle.gpu_capture.specs.declared.progress.Progress.{Progress}

fed_small : (s : State) (words : List ℕ) → fed_cost s words ≤ fed_box_cost s words
fed_small s [] = omega arith
fed_small s (word ∷ words) =
    let here = gp0_cost-small s word in let after = fed_small (after_gp0 s word) words in omega (arith, here, after)

taken_small : (block : Block) (n : ℕ) (s : State) (ram : List ℕ)
    → (first_taken block n s ram).cost ≤ (first_taken block n s ram).box_cost
taken_small block zero s ram = omega arith
taken_small block (suc n) s ram =
    let before = taken_small block n s ram in let here =
    read_cost-small (first_taken block n s ram).gpu in omega (arith, before, here)

operation_small : (s : Machine) (asked : Operation) → operation_cost s asked ≤ operation_box_cost s asked
operation_small s (operation.Feed asked next) = fed_small s.gpu (words_of s.ram asked)
operation_small s (operation.Take block next) = taken_small block block.n s.gpu s.ram
operation_small s operation.Read = read_cost-small s.gpu
operation_small s operation.Skip = read_cost-small s.gpu
operation_small s other = omega arith

asked_small : (s : Machine) (asked : Result Operation EventFault) → step_cost s asked ≤ step_box_cost s asked
asked_small s (Ok asked) = operation_small s asked
asked_small s (Err fault) = omega arith

pub event_cost-small : (s : Machine) (event : Event) → event_cost s event ≤ event_box_cost s event
unfolding event_cost event_box_cost
event_cost-small s event = asked_small s (operation_of s.ram s.running event)

pub costs_small : CostsAreSmall
costs_small t [] stop rest small = small
costs_small t (event ∷ events) stop rest before =
    let here = event_cost-small t.state event in
    along (λ t r. t.cost ≤ t.box_cost → r.replay.cost ≤ r.replay.box_cost) t event
    (event_step t.state (next_number t.played) event)
    (λ next. played_events next events stop rest)
    (λ fault. record { replay = t; ending = Faulted (next_number t.played) fault; rest = rest })
    (λ stepped small so_far. small (omega (arith, here, so_far)))
    (λ next. costs_small next events stop rest)
    (λ fault so_far. so_far) before

-- What is played costs at most its box cost.
abbrev pub AreSmall : (List ℕ → Played) → Type 0
AreSmall by_bytes = (bytes : List ℕ) → (by_bytes bytes).replay.cost ≤ (by_bytes bytes).replay.box_cost

pub from_small : (s : Machine) (played : ℕ) (p : Progress) → AreSmall (played_after (from_state s played) p)
from_small s played p bytes =
    let c = capture_from p bytes in
    let first = raised (from_state s played) c.version in
    let none = raised_first (from_state s played) c.version (from_first s played) in
    costs_small first c.events c.ending c.rest (omega (arith, none.cost, none.box_cost))

-- the store steps of playing and of its output, by the boxes
pub within_boxes : (mode : Mode) (by_bytes : List ℕ → Played) (bytes : List ℕ) (before now : ℕ) → AreSmall by_bytes
    → now ≤ before + out_cost mode (by_bytes bytes) → now ≤ before + out_box_cost mode (by_bytes bytes)
within_boxes mode by_bytes bytes before now small within = let less = small bytes in omega (arith, within, less)
