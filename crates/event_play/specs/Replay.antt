-- Events, one after another.
use Rattle.std.specs.Prelude.{ℕ, ◌+◌, ◌-◌, ◌^◌, ◌==◌, min, List, [], ◌∷◌, ◌++◌, option_to_list, Result, Ok, Err}
use Rattle.std.specs.Prelude.{if◌then◌else◌}
use Rattle.gp0_packets.specs.declared.note.Note.{Note}
use Rattle.gpu_capture.specs.Capture.{Captured, capture}
use Rattle.gpu_capture.specs.Reader.{capture_from}
use Rattle.gpu_capture.specs.declared.event.Event.{Event}
use Rattle.gpu_capture.specs.declared.event.Stop.{Stop}
use Rattle.gpu_capture.specs.declared.event.Stop.TheVariants.{End}
use Rattle.gpu_capture.specs.declared.progress.Progress.{Progress}
use Rattle.event_play.specs.Fed.{fed, fed_notes, fed_cost, fed_box_cost}
use Rattle.event_play.specs.Frames.{Frame, frames_after}
use Rattle.event_play.specs.Step.{Machine, Stepped, event_step, event_cost, event_box_cost, tall_machine}
use Rattle.event_play.specs.Changes.{Change, fed_changes, event_changes}
use Rattle.event_play.specs.declared.ending.Ending.{Ending}
use Rattle.event_play.specs.declared.ending.Ending.TheVariants.{Done, Stopped, Faulted}
use Rattle.event_play.specs.declared.fault.EventFault.{EventFault}

-- the trace of a replay: the machine, the number of events played, the shown words, the frames, the notes and the
-- changes. `cost`: the most store steps of all this; `box_cost`: the same by the boxes
pub record Replay : Type 0 where
  pub state : Machine
  pub played : ℕ
  pub shown : List ℕ
  pub frames : List Frame
  pub notes : List Note
  pub changes : List Change
  pub cost : ℕ
  pub box_cost : ℕ

-- the trace before any event, from a machine that has played `played` events
abbrev pub from_state : Machine → ℕ → Replay
from_state s played = record {
  state = s;
  played = played;
  shown = [];
  frames = [];
  notes = [];
  changes = [];
  cost = 0;
  box_cost = 0;
}

-- the number of the next event, at most 2^64 - 1
abbrev pub next_number : ℕ → ℕ
next_number played = min (played + 1) (2 ^ 64 - 1)

-- the replay with one more event
abbrev pub told_on : Replay → Event → (cost box_cost : ℕ) → Result Stepped EventFault → Result Replay EventFault
told_on t event cost box_cost (Ok stepped) = Ok (record {
  state = stepped.machine;
  played = next_number t.played;
  shown = t.shown ++ option_to_list stepped.shown;
  frames = t.frames ++ frames_after event (next_number t.played) stepped.machine.gpu.parts;
  notes = t.notes ++ stepped.notes;
  changes = t.changes ++ event_changes t.state (next_number t.played) event;
  cost = t.cost + cost;
  box_cost = t.box_cost + box_cost;
})
told_on t event cost box_cost (Err fault) = Err fault

abbrev pub after_event : Replay → Event → Result Replay EventFault
after_event t event =
    told_on t event (event_cost t.state event) (event_box_cost t.state event)
    (event_step t.state (next_number t.played) event)

-- the replay with the first words of its next event fed; that event is not counted
abbrev pub part_fed : Replay → List ℕ → Replay
part_fed t words = record {
  state = record t.state { gpu = fed t.state.gpu words };
  played = t.played;
  shown = t.shown;
  frames = t.frames;
  notes = t.notes ++ fed_notes t.state.gpu (next_number t.played) words;
  changes = t.changes ++ fed_changes t.state.gpu (next_number t.played) words;
  cost = t.cost + fed_cost t.state.gpu words;
  box_cost = t.box_cost + fed_box_cost t.state.gpu words;
}

-- how a list of events was played: the replay, how it ended, and the bytes after the capture's end
pub record Played : Type 0 where
  pub replay : Replay
  pub ending : Ending
  pub rest : List ℕ

-- the ending for a stop of the reader; `number`: the number of the next event
abbrev pub ending_of : ℕ → Stop → Ending
ending_of number End = Done
ending_of number stop = Stopped number stop

abbrev pub go_on : Result Replay EventFault → (Replay → Played) → (EventFault → Played) → Played
go_on (Ok next) on faulted = on next
go_on (Err fault) on faulted = faulted fault

-- the events are played up to the first fault
abbrev pub played_events : Replay → List Event → Stop → List ℕ → Played
played_events t [] stop rest = record { replay = t; ending = ending_of (next_number t.played) stop; rest = rest }
played_events t (event ∷ events) stop rest = go_on (after_event t event)
    (λ next. played_events next events stop rest)
    (λ fault. record { replay = t; ending = Faulted (next_number t.played) fault; rest = rest })

abbrev pub replayed : Replay → Captured → Played
replayed t captured = played_events t captured.events captured.ending captured.rest

-- ---- whole captures

-- what bytes give to play: the replay to start from, and what they say as a capture
pub record Script : Type 0 where
  pub first : Replay
  pub captured : Captured

abbrev pub played_script : Script → Played
played_script script = replayed script.first script.captured

-- the version whose captures are played in the tall profile
abbrev pub tall_version : ℕ
tall_version = 3

abbrev pub tall_replay : Replay → Replay
tall_replay t = record t { state = tall_machine t.state }

-- the replay from which a capture of this version is played
abbrev pub raised : Replay → (version : ℕ) → Replay
raised t version = if version == tall_version then tall_replay t else t

abbrev pub script_from : Replay → Captured → Script
script_from first captured = record { first = raised first captured.version; captured = captured }

abbrev pub played_from : Replay → Captured → Played
played_from first captured = played_script (script_from first captured)

-- a whole capture, played from `first`; it ends with `Done` if no event has a fault and the reader stops with End
abbrev pub script_of : Replay → List ℕ → Script
script_of first bytes = script_from first (capture bytes)

abbrev pub played_capture : Replay → List ℕ → Played
played_capture first bytes = played_script (script_of first bytes)

-- the bytes that a reader has still to read, from its offset on; for a new reader, a whole capture
abbrev pub script_after : Replay → Progress → List ℕ → Script
script_after first progress bytes = script_from first (capture_from progress bytes)

abbrev pub played_after : Replay → Progress → List ℕ → Played
played_after first progress bytes = played_script (script_after first progress bytes)
