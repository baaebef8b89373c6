-- Words that are played in order, each as an event of GP0.
use Rattle.std.specs.Prelude.{◌≡◌, ◌≤◌, ◌+◌, ◌++◌, ℕ, List, [], map}
use Rattle.gpu_capture.specs.declared.event.Event.{Event}
use Rattle.gpu_capture.specs.declared.event.Event.TheVariants.{Gp0}
use Rattle.gpu_capture.specs.declared.event.Stop.TheVariants.{End}
use Rattle.event_play.specs.Replay.{Replay, Played, played_events}
use Rattle.event_play.specs.RigState.{RigState, StandsFor}
use Rattle.event_play.specs.Streams.{Outlets}
use Rattle.event_play.specs.Told.{told_notes}

-- the replay of a complete list of events
abbrev pub whole_replay : Replay → List Event → Played
whole_replay first events = played_events first events End []

-- These words were played on a rig that represented the state `first`. Their replay leads to a state that the rig now
-- represents; the taps received its notes, the steps are within its cost, and the height of video memory is unchanged.
pub record HavePlayed (first : Replay) (words : List ℕ) (before now : Outlets) (rig : RigState) : Type 0 where
  pub replay : Replay
  pub comes : (more : List Event) → whole_replay first (map Gp0 words ++ more) ≡ whole_replay replay more
  pub stands : StandsFor rig replay
  pub heard : now.heard ≡ told_notes replay.notes before.heard
  pub cost : now.steps ≤ before.steps + replay.cost
  pub height : replay.state.gpu.parts.regs.height ≡ first.state.gpu.parts.regs.height
