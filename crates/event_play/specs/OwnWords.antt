-- Words that a program feeds to a rig without a capture.
use Rattle.std.specs.Prelude.{◌≡◌, ◌≤◌, ◌+◌}
use Rattle.event_play.specs.Replay.{Replay}
use Rattle.event_play.specs.RigState.{RigState, StandsFor}
use Rattle.event_play.specs.Streams.{Outlets}
use Rattle.event_play.specs.Told.{told_notes}

-- The rig agrees with a replay, and the taps received its notes.
pub record Tells (t : Replay) (before now : Outlets) (rig : RigState) : Type 0 where
  pub stands : StandsFor rig t
  pub heard : now.heard ≡ told_notes t.notes before.heard
  pub cost : now.steps ≤ before.steps + t.cost
