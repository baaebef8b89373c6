use Rattle.event_play.proofs.Nodes.{left_whole}
use Rattle.event_play.proofs.words.WordCursor.of.Goals as goal

pub returns : goal.returns
returns c = left_whole c.args.ram.now c.args.block c.args.following
