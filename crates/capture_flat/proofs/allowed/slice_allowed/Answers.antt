use Rattle.capture_flat.proofs.Allows.{words_fit}
use Rattle.capture_flat.proofs.allowed.slice_allowed.Goals as goal

pub returns : goal.returns
returns c = words_fit c.args.words.now c.words_fit.ensures
