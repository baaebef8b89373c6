-- One event that is played, and the output after the last one.
use Rattle.std.specs.Prelude.{◌≡◌, ◌≤◌, ◌⊎◌, Bool, ℕ, ◌+◌, List, Option, Some, Result, Err, OnOk, IfErr}
use Rattle.std.specs.Prelude.{true, false, option_to_list}
use Rattle.gathered_out.specs.Causes.{Causes}
use Rattle.gathered_out.specs.Pieces.{piece}
use Rattle.gathered_out.specs.Puts.{BreaksPut, BreaksWriting, IsPut, IsWritten, holding}
use Rattle.dev_io.specs.Device.{appended, AppendsPart}
use Rattle.event_loop.specs.Halting.{FailsWriting}
use Rattle.event_loop.specs.declared.ended.Ended.{Ended}
use Rattle.event_loop.specs.declared.ended.Ended.TheVariants as ended
use Rattle.event_loop.specs.declared.ended.Halt.{Halt}
use Rattle.event_loop.specs.declared.ended.Halt.TheVariants.{Lacks, Refuses}
use Rattle.gpu_capture.specs.declared.event.Event.{Event}
use Rattle.gpu_capture.specs.declared.event.Stop.{Stop}
use Rattle.gpu_capture.specs.declared.event.Stop.TheVariants.{End}
use Rattle.gpu_core.specs.Machine.{State}
use Rattle.gpu_taps.specs.Tally.{Reading}
use Rattle.event_play.specs.Feeding.{StopsFeeding, drawing, due_lines, in_event}
use Rattle.event_play.specs.Frames.{frames_after}
use Rattle.event_play.specs.Lines.{IsBuffered, MayBuffer, WritesAfter, lines_for, lines_cost}
use Rattle.event_play.specs.Out.{final_bytes, final_cost, lacks_picture}
use Rattle.event_play.specs.Replay.{Replay, next_number}
use Rattle.event_play.specs.RigState.{StandsFor}
use Rattle.event_play.specs.PlayState.{PlayState, play_state}
use Rattle.event_play.specs.Step.{Machine, Stepped, event_step, event_words, showing}
use Rattle.event_play.specs.Stepping.{HasStepped, numbered}
use Rattle.event_play.specs.Streams.{Outlets}
use Rattle.event_play.specs.Changes.{event_changes}
use Rattle.event_play.specs.declared.ending.Ending.{Ending}
use Rattle.event_play.specs.declared.ending.Ending.TheVariants.{Done, Stopped, Faulted, NoPicture, WriteFailed}
use Rattle.event_play.specs.declared.ending.Mode.{Mode}
use Rattle.event_play.specs.declared.fault.EventFault.{EventFault}

-- an event that follows a replay
pub record NextEvent : Type 0 where
  pub replay : Replay
  pub event : Event

abbrev pub next_event : Replay → Event → NextEvent
next_event t event = record { replay = t; event = event }

-- its number
abbrev pub number_in : NextEvent → ℕ
number_in comes = next_number comes.replay.played

-- its lines, from the step that it makes; below, their store steps
abbrev pub event_lines : Mode → NextEvent → Stepped → List ℕ
event_lines mode comes after = lines_for mode (option_to_list after.shown)
    (frames_after comes.event (number_in comes) after.machine.gpu.parts) after.notes
    (event_changes comes.replay.state (number_in comes) comes.event)

abbrev pub event_lines_cost : Mode → NextEvent → Machine → ℕ
event_lines_cost mode comes machine =
    lines_cost mode (frames_after comes.event (number_in comes) machine.gpu.parts)
    (event_changes comes.replay.state (number_in comes) comes.event)

-- the same with `at` store steps
abbrev pub by_steps : (at : ℕ) → PlayState → PlayState
by_steps at now = play_state (record now.out { steps = at }) now.rig

-- The event was played, its output added or written, and its notes sent to the taps. `at`: the store steps before the
-- output was written.
pub record PlaysEvent (mode : Mode) (comes : NextEvent) (before : Outlets) (now : PlayState) : Type 0 where
  pub shown : Option ℕ
  pub at : ℕ
  pub step : HasStepped comes.replay.state (numbered (number_in comes) comes.event) shown before (by_steps at now)
  pub played : now.rig.played ≡ number_in comes
  pub put : IsPut (piece (number_in comes) (event_lines mode comes (showing step.machine shown step.notes)))
      (holding before.held before.buffered) (holding now.out.held now.out.buffered)
  pub free : MayBuffer mode now.out.buffered
  pub spent : now.out.steps ≤ at + event_lines_cost mode comes step.machine

-- The event was played. The line of its shown word, its picture, or the line of the picture's digest was not written
-- completely.
pub record ShowsPart (mode : Mode) (comes : NextEvent) (before : Outlets) (now : PlayState) : Type 0 where
  pub mode_is : WritesAfter mode
  pub shown : Option ℕ
  pub at : ℕ
  pub step : HasStepped comes.replay.state (numbered (number_in comes) comes.event) shown before (by_steps at now)
  pub played : now.rig.played ≡ number_in comes
  pub held : AppendsPart before.held now.out.held (event_lines mode comes (showing step.machine shown step.notes))
  pub spent : now.out.steps ≤ at + event_lines_cost mode comes step.machine

-- The words of the event were fed up to one whose line could not be written. The event does not count, and the rest of
-- the rig is unchanged.
pub record FeedsPart (mode : Mode) (comes : NextEvent) (before : Outlets) (now : PlayState) (lacking : ℕ) : Type 0 where
  pub buffers : IsBuffered mode
  pub breaks : BreaksPut (due_lines (in_event (number_in comes) (Some mode)) comes.replay.state.gpu
      (event_words comes.replay.state comes.event)) (holding before.held before.buffered) now.out.held lacking
  pub feeding : StopsFeeding (in_event (number_in comes) (Some mode)) comes.replay.state.gpu
      (event_words comes.replay.state comes.event) before (drawing now.out now.rig.gpu)
  pub ram : comes.replay.state.ram ≡ now.rig.ram
  pub running : comes.replay.state.running ≡ now.rig.running
  pub played : comes.replay.played ≡ now.rig.played

-- The event has a fault and changed nothing.
pub record FaultsEvent (comes : NextEvent) (fault : EventFault) (before now : PlayState) : Type 0 where
  pub is : event_step comes.replay.state (number_in comes) comes.event ≡ Err fault
  pub stands : now.rig ≡ before.rig
  pub unchanged : now.out ≡ before.out

-- How an event ends playing. Refuses: it has this fault. Lacks: the output of event `number` was not written
-- completely; that is this event, or an earlier one whose lines were buffered.
abbrev pub EndsEvent : Mode → NextEvent → (before now : PlayState) → Halt EventFault → Type 0
EndsEvent mode comes before now (Refuses fault) = FaultsEvent comes fault before now
EndsEvent mode comes before now (Lacks number) =
    FeedsPart mode comes before.out now number ⊎ ((number ≡ number_in comes) × ShowsPart mode comes before.out now)

-- What a call that plays an event does, for every replay with which the rig agrees. Ok: playing continues.
pub record PlaysOrEnds {Value : Type 0} (mode : Mode) (event : Event) (before now : PlayState)
    (result : Result Value (Halt EventFault)) : Type 0 where
  pub ok : (t : Replay) → StandsFor before.rig t → MayBuffer mode before.out.buffered
      → OnOk result (PlaysEvent mode (next_event t event) before.out now)
  pub ends : (t : Replay) → StandsFor before.rig t → MayBuffer mode before.out.buffered
      → IfErr result (EndsEvent mode (next_event t event) before now)
  pub causes : Causes (FailsWriting result) before.out.faults now.out.faults

-- ---- the end

-- the ending of playing, from that of the loop; `number`: the number of the next event
abbrev pub play_ending : Ended EventFault → (number : ℕ) → Ending
play_ending ended.Done number = Done
play_ending (ended.Stopped at stop) number = Stopped at stop
play_ending (ended.Refused fault) number = Faulted number fault
play_ending (ended.WriteFailed at) number = WriteFailed at

abbrev pub IsNotEnd : Stop → Type 0
IsNotEnd End = ⊥
IsNotEnd stop = Unit {0}

-- what decides the final output: the mode, the GPU state, and the number of the next event
pub record FinalOutput : Type 0 where
  pub mode : Mode
  pub state : State
  pub number : ℕ

abbrev pub final_output : Mode → State → (number : ℕ) → FinalOutput
final_output mode s number = record { mode = mode; state = s; number = number }

-- whether it lacks a picture; below, its bytes
abbrev pub LacksPicture : FinalOutput → (lacks : Bool) → Type 0
LacksPicture due lacks = lacks_picture due.mode due.state.parts.regs ≡ lacks

abbrev pub final_output_bytes : FinalOutput → List Reading → List ℕ
final_output_bytes due heard = final_bytes due.mode heard due.number due.state

-- the final output was written
pub record WritesEnd (due : FinalOutput) (before now : Outlets) : Type 0 where
  pub shows : LacksPicture due false
  pub held : now.held ≡ appended before.held (final_output_bytes due before.heard)
  pub cost : now.steps ≤ before.steps + final_cost due.mode due.state

-- a proper prefix of the final output was written
pub record WritesEndPart (due : FinalOutput) (before now : Outlets) : Type 0 where
  pub shows : LacksPicture due false
  pub held : AppendsPart before.held now.held (final_output_bytes due before.heard)
  pub cost : now.steps ≤ before.steps + final_cost due.mode due.state

-- how a stop of the reader ends playing if the buffer is empty, with the number of the next event
abbrev pub EndsAt : FinalOutput → Stop → (before now : Outlets) → Ending → Type 0
EndsAt due stop before now Done = (stop ≡ End) × WritesEnd due before now
EndsAt due stop before now (WriteFailed at) = (stop ≡ End) × (at ≡ due.number) × WritesEndPart due before now
EndsAt due stop before now (NoPicture at) =
    (stop ≡ End) × (at ≡ due.number) × LacksPicture due true × (now ≡ before)
EndsAt due stop before now (Stopped at told) = (at ≡ due.number) × (told ≡ stop) × IsNotEnd stop × (now ≡ before)
EndsAt due stop before now (Faulted at fault) = ⊥

-- the same after a flush of the buffer; or the flush failed
abbrev pub EndsReading : FinalOutput → Stop → (before now : Outlets) → Ending → Type 0
EndsReading due stop before now ending =
    ((mid : Outlets) × IsWritten before.held mid.held before.buffered × (mid.heard ≡ before.heard)
    × (mid.steps ≡ before.steps) × EndsAt due stop mid now ending)
    ⊎ ((lacking : ℕ) × (ending ≡ WriteFailed lacking) × BreaksWriting before.held now.held before.buffered lacking
    × (now.heard ≡ before.heard) × (now.steps ≡ before.steps))
