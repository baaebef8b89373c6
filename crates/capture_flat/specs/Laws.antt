-- What a replay of flat events has in common with the replay that they were made from.
use Rattle.std.specs.Prelude.{◌≡◌, List}
use Rattle.gpu_capture.specs.declared.event.Event.{Event}
use Rattle.event_play.specs.Alike.{AreAlike, replay_of}
use Rattle.event_play.specs.Replay.{from_state}
use Rattle.event_play.specs.Step.{Machine}
use Rattle.event_play.specs.declared.ending.Ending.TheVariants.{Done}
use Rattle.capture_flat.specs.Flat.{flat_replay}

-- From every machine, of either height: if events have no fault, their flat events have none either, and both lists are
-- replayed alike.
abbrev pub FlatReplaysAlike : Type 0
FlatReplaysAlike = (s : Machine) (events : List Event) → (replay_of s events).ending ≡ Done
    → ((replay_of s (flat_replay (from_state s 0) events)).ending ≡ Done)
    × AreAlike (replay_of s (flat_replay (from_state s 0) events)).replay (replay_of s events).replay
