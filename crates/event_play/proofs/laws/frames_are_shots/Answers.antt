use Rattle.event_play.proofs.Shots.{frames_shots}
use Rattle.event_play.proofs.laws.frames_are_shots.Goals as goal

pub returns : goal.returns
returns c = frames_shots
