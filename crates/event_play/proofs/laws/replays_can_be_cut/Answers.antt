use Rattle.event_play.proofs.Splits.{replays_split}
use Rattle.event_play.proofs.laws.replays_can_be_cut.Goals as goal

pub returns : goal.returns
returns c = replays_split
