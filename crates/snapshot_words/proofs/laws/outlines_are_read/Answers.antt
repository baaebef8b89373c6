use Rattle.snapshot_words.proofs.Spelling.{outline_read}
use Rattle.snapshot_words.proofs.laws.outlines_are_read.Goals as goal

pub returns : goal.returns
returns c = outline_read
