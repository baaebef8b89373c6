use Rattle.event_play.proofs.AlikeStates.{states-alike}
use Rattle.event_play.proofs.laws.alike_replay_alike.Goals as goal

pub returns : goal.returns
returns c = states-alike
