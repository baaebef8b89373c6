use Rattle.event_play.specs.Replay.{from_state}
use Rattle.capture_flat.proofs.Alike.{flat_alike}
use Rattle.capture_flat.proofs.laws.flat_replays_alike.Goals as goal

pub returns : goal.returns
returns c = λ s events fine. flat_alike (from_state s 0) events fine
