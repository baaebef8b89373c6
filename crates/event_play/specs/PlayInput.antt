-- The state of playing a capture, and the output at its end.
use Rattle.std.specs.Prelude.{ℕ, List}
use Rattle.gpu_capture.specs.declared.event.Event.{Event}
use Rattle.event_play.specs.Replay.{Replay, Script}
use Rattle.event_play.specs.RigState.{RigState}
use Rattle.event_play.specs.Streams.{Streams}
use Rattle.event_play.specs.declared.ending.Mode.{Mode}

-- a capture that is played in a mode: what its bytes give to play, and the bytes read
pub record PlayInput : Type 0 where
  pub mode : Mode
  pub script : List ℕ → Script
  pub taken : List ℕ

abbrev pub play_input : Mode → (List ℕ → Script) → (taken : List ℕ) → PlayInput
play_input mode script taken = record { mode = mode; script = script; taken = taken }

-- the replay up to the ending, and the last replay, with which the rig agrees
pub record ReplayPair : Type 0 where
  pub replay : Replay
  pub last : Replay

abbrev pub replay_pair : (replay last : Replay) → ReplayPair
replay_pair replay last = record { replay = replay; last = last }

-- output that follows the lines of the replay `start`
pub record Due : Type 0 where
  pub start : Replay
  pub bytes : List ℕ

abbrev pub after_replay : (start : Replay) → (bytes : List ℕ) → Due
after_replay start bytes = record { start = start; bytes = bytes }

-- an event among those that were read, with the events before and after it
pub record Among : Type 0 where
  pub before : List Event
  pub event : Event
  pub after : List Event

abbrev pub among : (before : List Event) → Event → (after : List Event) → Among
among before event after = record { before = before; event = event; after = after }

-- the source, the sink, the taps, the store steps and the rig, at the end
pub record AtEnd : Type 0 where
  pub streams : Streams
  pub rig : RigState

abbrev pub at_end : Streams → RigState → AtEnd
at_end streams rig = record { streams = streams; rig = rig }
