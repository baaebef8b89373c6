use Rattle.snapshot_words.proofs.Gathering.{buffer_back}
use Rattle.snapshot_words.proofs.taking.word_in.Goals as goal

pub returns-clause-value : goal.returns-clause-value
returns-clause-value c = buffer_back c.args.bytes.now c.read_u32.result c.told-bytes c.fits-bytes c.read_u32.ensures
