-- Events of which only the first words were fed.
use Rattle.std.proofs.Common.{◌≡◌, ◌≤◌, ℕ, ◌+◌, ◌++◌, List, [], ◌∷◌, None, Some, Result, Ok, refl, ap, sym}
use Rattle.std.proofs.Common.{◌∙◌, append_assoc, arith}
use Rattle.gpu_capture.specs.declared.event.Event.{Event}
use Rattle.gpu_capture.specs.declared.event.Event.TheVariants as event
use Rattle.gpu_core.specs.Machine.{State, Parts}
use Rattle.event_play.specs.Fed.{fed_notes, fed_cost}
use Rattle.event_play.specs.Feeding.{fed_lines_cost}
use Rattle.event_play.specs.Frames.{frames_after}
use Rattle.event_play.specs.Lines.{lines_cost}
use Rattle.event_play.specs.Step.{Machine, event_step, event_cost, event_words, asked_words, done, stepped, step_cost}
use Rattle.event_play.specs.Changes.{fed_changes}
use Rattle.event_play.specs.Operation.{operation_of}
use Rattle.event_play.specs.declared.ending.Mode.{Mode}
use Rattle.event_play.specs.declared.fault.EventFault.{EventFault}
use Rattle.event_play.specs.declared.operation.Operation.{Operation}
use Rattle.event_play.specs.declared.operation.Operation.TheVariants as operation
use Rattle.event_play.proofs.Feeds.{fed_cost-append, fed_looks-append}

-- ---- an event that feeds words does nothing else

no_words : (before : List ℕ) (word : ℕ) (after : List ℕ) → [] ≡ before ++ word ∷ after → ⊥
no_words [] word after are = absurd cc
no_words (x ∷ xs) word after are = absurd cc

-- what an operation that feeds these words does
pub record OperationFeeds (s : Machine) (number : ℕ) (words : List ℕ)
    (asked : Result Operation EventFault) : Type 0 where
  pub machine : Machine
  pub is : stepped s number asked ≡ Ok
      (record { machine = machine; shown = None; notes = fed_notes s.gpu number words })
  pub cost : step_cost s asked ≡ fed_cost s.gpu words

asked_feeds : (s : Machine) (number : ℕ) (asked : Result Operation EventFault) (before : List ℕ) (word : ℕ)
    (after : List ℕ)
    → asked_words s.ram asked ≡ before ++ word ∷ after → OperationFeeds s number (before ++ word ∷ after) asked
asked_feeds s number (Ok (operation.Feed words next)) before word after are =
    record {
      machine = (done s number (operation.Feed words next)).machine;
      is = rw (← are) refl;
      cost = rw (← are) refl;
    }
asked_feeds s number other before word after are = absurd (no_words before word after are)

pub record EventFeeds (s : Machine) (number : ℕ) (event : Event) (words : List ℕ) : Type 0 where
  pub machine : Machine
  pub is : event_step s number event
      ≡ Ok (record { machine = machine; shown = None; notes = fed_notes s.gpu number words })
  pub cost : event_cost s event ≡ fed_cost s.gpu words

pub event_feeds : (s : Machine) (number : ℕ) (event : Event) (before : List ℕ) (word : ℕ) (after : List ℕ)
    → event_words s event ≡ before ++ word ∷ after → EventFeeds s number event (before ++ word ∷ after)
unfolding event_step event_cost
event_feeds s number event before word after are =
    let feeds = asked_feeds s number (operation_of s.ram s.running event) before word after are in
    record { machine = feeds.machine; is = feeds.is; cost = feeds.cost }

-- Such an event is no write to GP1.
pub no_frames : (s : Machine) (event : Event) (number : ℕ) (parts : Parts) (before : List ℕ) (word : ℕ) (after : List ℕ)
    → event_words s event ≡ before ++ word ∷ after → frames_after event number parts ≡ []
no_frames s (event.Gp1 x) number parts before word after are = absurd (no_words before word after are)
no_frames s other number parts before word after are = refl

-- The first words cost no more than the event.
pub part_cost : (mode : Mode) (s : State) (number : ℕ) (before : List ℕ) (word : ℕ) (after : List ℕ)
    (all steps_before steps_now : ℕ)
    → all ≡ fed_cost s (before ++ word ∷ after)
    → steps_now ≤ steps_before + fed_lines_cost (Some mode) s number (before ++ word ∷ [])
    → steps_now ≤ steps_before + all + lines_cost mode [] (fed_changes s number (before ++ word ∷ after))
part_cost mode s number before word after all steps_before steps_now is within =
    let first = before ++ word ∷ [] in
    let whole : first ++ after ≡ before ++ word ∷ after = append_assoc before (word ∷ []) after in
    let cost = sym (fed_cost-append s first after) ∙ ap (fed_cost s) whole in
    let looks = sym (fed_looks-append (Some mode) s number first after)
    ∙ ap (λ words. lines_cost mode [] (fed_changes s number words)) whole in
    omega (arith, is, within, cost, looks)
