-- What a replay without dead drawing has in common with the whole replay.
use Rattle.std.specs.Prelude.{◌≡◌, ℕ, ◌==◌, List, if◌then◌else◌}
use Rattle.px_num.specs.Height.{tall_height}
use Rattle.gpu_capture.specs.declared.event.Event.{Event}
use Rattle.event_play.specs.Alike.{AreAlike, replay_of}
use Rattle.event_play.specs.Ports.{AreAtPorts}
use Rattle.event_play.specs.Replay.{tall_version}
use Rattle.event_play.specs.Step.{Machine, first_machine, tall_machine}
use Rattle.event_play.specs.declared.ending.Ending.TheVariants.{Done}
use Rattle.dead_drawing.specs.Slim.{slim_events}

-- the number of rows of video memory for captures of this version
abbrev pub height_for : (version : ℕ) → ℕ
height_for version = if version == tall_version then tall_height else 512

-- the machine at the start of a capture of this version
abbrev pub machine_for : (version : ℕ) → Machine
machine_for version = if version == tall_version then tall_machine first_machine else first_machine

-- In every version, events of the ports and the same events without their dead packets are replayed alike, and neither
-- list has a fault.
abbrev pub SlimReplaysAlike : Type 0
SlimReplaysAlike = (version : ℕ) (events : List Event) → AreAtPorts events
    → ((replay_of (machine_for version) (slim_events (height_for version) events)).ending ≡ Done)
    × ((replay_of (machine_for version) events).ending ≡ Done)
    × AreAlike (replay_of (machine_for version) (slim_events (height_for version) events)).replay
    (replay_of (machine_for version) events).replay
