use Rattle.std.proofs.Common.{arith}
use Rattle.gpu_snapshot.proofs.RamWords.{block_lacks, block_next, others_on}
use Rattle.gpu_snapshot.proofs.memory.read_words.Goals as goal

pub returns-in-Err-clause-fault : goal.returns-in-Err-clause-fault
returns-in-Err-clause-fault g c =
    block_lacks _ _ _ c.all.rig.ram c.args.offset c.all.b c.args.blocks _ c.all.invariant.long c.all-test.true
    (omega (arith, c.requires.all, c.requires.long)) c.all.invariant.takes c.in-Err.ensures.fault

pub all-preserved : goal.all-preserved
all-preserved g c = record {
  takes = c.set_block.ensures.words _ _ (block_next _ _ _ _ c.take_block.new.block c.all.invariant.takes
      c.in_default.ensures.takes);
  others = others_on c.args.rig.now c.all.rig c.set_block.new.rig c.set_block.new.rig.ram c.all.invariant.others
      c.set_block.ensures.others;
  long = c.set_block.ensures.long;
  faults = omega (arith, c.all.invariant.faults, c.in_default.ensures.cause.faults);
}
