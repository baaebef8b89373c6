use Rattle.event_play.specs.Replay.{from_state}
use Rattle.capture_flat.proofs.Alike.{flat_film}
use Rattle.capture_flat.proofs.laws.flat_keeps_film.Goals as goal

pub returns : goal.returns
returns c = λ s events fine. flat_film (from_state s 0) events fine
