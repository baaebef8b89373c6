use Rattle.capture_slim.proofs.StreamLaw.{stream_law, leaves_law}
use Rattle.capture_slim.proofs.laws.window_leaves_slim.Goals as goal

pub returns : goal.returns
returns c = record { stream = stream_law; leaves = leaves_law }
