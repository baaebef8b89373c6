-- One event that is played and written, and the output after the last one (our own rule).
use Rattle.std.specs.Prelude.{◌≡◌, ℕ, List, ◌++◌, Option}
use Rattle.gpu_capture.specs.Written.{spelled_end, AllowsAll}
use Rattle.gpu_capture.specs.declared.event.Event.{Event}
use Rattle.event_play.specs.Replay.{Replay, next_number}
use Rattle.event_play.specs.RigState.{RigState}
use Rattle.event_play.specs.PlayState.{play_state}
use Rattle.event_play.specs.Stepping.{HasStepped, numbered}
use Rattle.event_play.specs.Streams.{Outlets}
use Rattle.capture_flat.specs.Flat.{flat_events}
use Rattle.capture_flat.specs.Out.{head_due}

-- The event was played, and its flat events are valid in version 2.
pub record PlaysFlat (t : Replay) (event : Event) (before now : Outlets) (rig : RigState) : Type 0 where
  pub shown : Option ℕ
  pub step : HasStepped t.state (numbered (next_number t.played) event) shown before (play_state now rig)
  pub played : rig.played ≡ next_number t.played
  pub allowed : AllowsAll 2 (flat_events t.state event)

-- the output of an End record after `played` events: the file header before it if there was no event
abbrev pub end_due : (version played : ℕ) → List ℕ
end_due version played = head_due version played ++ spelled_end
