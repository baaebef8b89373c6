use Rattle.std.proofs.Common.{ap, arith, refl}
use Rattle.event_play.specs.RigState.{RigState}
use Rattle.gpu_snapshot.proofs.RamWords.{block_begins, block_ends, block_on, others_on}
use Rattle.gpu_snapshot.proofs.memory.set_block.Goals as goal

pub words-init : goal.words-init
words-init c = record {
  block = λ before left takes. block_begins before left c.args.rig.now.ram c.args.block.now c.args.b takes;
  others = refl;
  long = c.requires.long;
}

pub words-preserved : goal.words-preserved
words-preserved c = record {
  block = λ before left takes. block_on before left c.words.rig.ram c.set_word.new.self.ram c.args.block.now c.args.b
      c.words.k c.word_in.result c.words.invariant.long
      (omega (arith, c.words-test.true, c.words.auto.k-end, c.requires.within))
      (c.words.invariant.block before left takes) c.word_in.ensures
      (ap (λ (r : RigState). r.ram) c.set_word.ensures.word);
  others = others_on c.args.rig.now c.words.rig c.set_word.new.self _ c.words.invariant.others c.set_word.ensures.word;
  long = c.set_word.ensures.long;
}

pub returns-clause-words : goal.returns-clause-words
returns-clause-words c = λ before left takes.
    block_ends before left c.words.rig.ram c.args.block.now c.args.b c.words.k c.told-block
    (omega (arith, c.words-test.false, c.words.auto.k-end)) (c.words.invariant.block before left takes)
