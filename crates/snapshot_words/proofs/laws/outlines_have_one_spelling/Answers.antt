use Rattle.snapshot_words.proofs.Unique.{one_spelling}
use Rattle.snapshot_words.proofs.laws.outlines_have_one_spelling.Goals as goal

pub returns : goal.returns
returns c = one_spelling
