-- An event that was played.
use Rattle.std.specs.Prelude.{◌≡◌, ◌≤◌, ℕ, ◌+◌, List, Option, Ok}
use Rattle.gp0_packets.specs.declared.note.Note.{Note}
use Rattle.gpu_capture.specs.declared.event.Event.{Event}
use Rattle.event_play.specs.RigState.{Stands}
use Rattle.event_play.specs.PlayState.{PlayState}
use Rattle.event_play.specs.Step.{Machine, event_step, event_cost, showing}
use Rattle.event_play.specs.Streams.{Outlets}
use Rattle.event_play.specs.Told.{told_notes}

-- an event, and its number
pub record Numbered : Type 0 where
  pub number : ℕ
  pub event : Event

abbrev pub numbered : (number : ℕ) → Event → Numbered
numbered number event = record { number = number; event = event }

-- The machine `s` played the event. The event showed this word, if any, and the taps received every note.
pub record HasStepped (s : Machine) (given : Numbered) (shown : Option ℕ) (before : Outlets) (now : PlayState)
    : Type 0 where
  pub machine : Machine
  pub notes : List Note
  pub is : event_step s given.number given.event ≡ Ok (showing machine shown notes)
  pub stands : Stands now.rig machine
  pub heard : now.out.heard ≡ told_notes notes before.heard
  pub cost : now.out.steps ≤ before.steps + event_cost s given.event
