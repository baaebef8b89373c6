use Rattle.gpu_snapshot.proofs.Blocks.{block_word}
use Rattle.gpu_snapshot.proofs.block.word_in.Goals as goal

pub returns : goal.returns
returns c =
    block_word c.args.block.now c.args.k c.read_u32.result c.told-block c.requires c.fits-block c.read_u32.ensures
