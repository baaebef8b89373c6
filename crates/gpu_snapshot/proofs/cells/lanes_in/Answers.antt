use Rattle.std.proofs.Common.{[], refl, rules, arith}
use Rattle.gpu_snapshot.proofs.CellWords.{lanes_all, lanes_none, lanes_on}
use Rattle.gpu_snapshot.proofs.cells.lanes_in.Goals as goal

pub words-init : goal.words-init
words-init c = record { takes = lanes_none c.args.block.now c.args.c []; long = search rules }

pub words-preserved : goal.words-preserved
words-preserved c = record {
  takes = lanes_on c.args.block.now c.words.lanes _ c.args.c c.words.k c.word_in-word.result c.low_half.result
      c.high_half.result c.words.invariant.long c.words-test.true c.words.invariant.takes c.word_in-word.ensures
      c.low_half.ensures c.high_half.ensures refl;
  long = search rules;
}

pub returns : goal.returns
returns c =
    lanes_all c.args.block.now c.words.lanes c.args.c c.words.k c.words.invariant.long
    (omega (arith, c.words-test.false, c.words.auto.k-end)) c.words.invariant.takes
