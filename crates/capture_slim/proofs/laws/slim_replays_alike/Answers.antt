use Rattle.dead_drawing.proofs.WholeLists.{slim_law}
use Rattle.capture_slim.proofs.laws.slim_replays_alike.Goals as goal

pub returns : goal.returns
returns c = slim_law
