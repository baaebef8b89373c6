use Rattle.dead_drawing.proofs.KeptAlike.{calm_law, fill_law}
use Rattle.dead_drawing.proofs.laws.events_keep_alike.Goals as goal

pub returns : goal.returns
returns c = record { calm = calm_law; fill = fill_law }
