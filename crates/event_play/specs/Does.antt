-- An operation that is performed while lines of its words are added.
use Rattle.std.specs.Prelude.{◌≡◌, ◌≤◌, ◌⊎◌, ℕ, ◌+◌, List, Option, Result, Ok, IfOk, OnErr}
use Rattle.dev_io.specs.Device.{Rose}
use Rattle.gathered_out.specs.Pieces.{Piece}
use Rattle.gathered_out.specs.Puts.{Puts}
use Rattle.gpu_core.specs.Kept.{kept_of}
use Rattle.gpu_core.specs.Machine.{State}
use Rattle.event_play.specs.Feeding.{BuffersLines, EventInMode, StopsFeeding, drawing, due_lines, looks_in}
use Rattle.event_play.specs.RigState.{Stands, machine_of}
use Rattle.event_play.specs.PlayState.{PlayState}
use Rattle.event_play.specs.Step.{Machine, done, operation_cost, asked_words}
use Rattle.event_play.specs.Streams.{Outlets, sink_of}
use Rattle.event_play.specs.Changes.{Change, fed_changes}
use Rattle.event_play.specs.Told.{told_notes}
use Rattle.event_play.specs.declared.operation.Operation.{Operation}

-- the changes that its words make
abbrev pub operation_changes : Machine → (number : ℕ) → Operation → List Change
operation_changes s number asked = fed_changes s.gpu number (asked_words s.ram (Ok asked))

-- their lines, as output of this event
abbrev pub operation_lines : EventInMode → Machine → Operation → Piece
operation_lines event_in_mode s asked = due_lines event_in_mode s.gpu (asked_words s.ram (Ok asked))

-- The machine `s` performed the whole operation in this event.
pub record Does (event_in_mode : EventInMode) (s : Machine) (asked : Operation) (before : Outlets)
    (now : PlayState) : Type 0 where
  pub stands : Stands now.rig (done s event_in_mode.number asked).machine
  pub heard : now.out.heard ≡ told_notes (done s event_in_mode.number asked).notes before.heard
  pub cost : now.out.steps ≤ before.steps
      + (operation_cost s asked + looks_in event_in_mode.mode (operation_changes s event_in_mode.number asked))

-- The words of the operation were fed up to one whose line could not be written. Main memory and the running transfer
-- are unchanged.
pub record Stops (event_in_mode : EventInMode) (s : Machine) (asked : Operation) (before : Outlets)
    (now : PlayState) : Type 0 where
  pub feeding : StopsFeeding event_in_mode s.gpu (asked_words s.ram (Ok asked)) before (drawing now.out now.rig.gpu)
  pub ram : s.ram ≡ now.rig.ram
  pub running : s.running ≡ now.rig.running

-- What a call that performs an operation does, for every GPU state that agrees with the rig. Ok, with the shown word:
-- the whole operation was performed. Err: a line could not be written.
pub record Performs (event_in_mode : EventInMode) (asked : Operation) (before now : PlayState)
    (result : Result (Option ℕ) ℕ)
    : Type 0 where
  pub ok : (s : State) → kept_of s ≡ before.rig.gpu
      → IfOk result (λ shown. (shown ≡ (done (machine_of before.rig s) event_in_mode.number asked).shown)
      × Does event_in_mode (machine_of before.rig s) asked before.out now)
  pub failed : (s : State) → kept_of s ≡ before.rig.gpu
      → OnErr result (Stops event_in_mode (machine_of before.rig s) asked before.out now)
  pub kept : BuffersLines event_in_mode.mode ⊎ (now.out.buffered ≡ before.out.buffered)
  pub buffers : OnErr result (BuffersLines event_in_mode.mode)
  pub played : now.rig.played ≡ before.rig.played
  pub cause : OnErr result (Rose before.out.faults now.out.faults)
  pub faults : before.out.faults ≤ now.out.faults

-- the output that it adds, for the same GPU states
abbrev pub PutsOperation : EventInMode → Operation → (before now : PlayState) → Result (Option ℕ) ℕ → Type 0
PutsOperation event_in_mode asked before now result = (s : State) → kept_of s ≡ before.rig.gpu
    → Puts (operation_lines event_in_mode (machine_of before.rig s) asked) (sink_of before.out) (sink_of now.out) result
