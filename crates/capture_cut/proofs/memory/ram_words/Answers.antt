use Rattle.std.proofs.Common.{arith, ◌∙◌, length-set}
use Rattle.capture_cut.proofs.Words.{ram_on, ram_whole}
use Rattle.capture_cut.proofs.memory.ram_words.Goals as goal

pub loop-i-preserved : goal.loop-i-preserved
loop-i-preserved c = record {
  count = length-set c.loop-i.words c.loop-i.i c.get.result ∙ c.loop-i.invariant.count;
  words = ram_on c.args.ram.now c.loop-i.words c.args.first c.loop-i.i c.get.result c.get.ensures.long c.requires
      c.loop-i-test.true c.loop-i.invariant.count c.loop-i.invariant.words c.get.ensures.value;
  long = λ some. c.get.ensures.long;
}

pub returns-clause-words : goal.returns-clause-words
returns-clause-words c =
    ram_whole c.args.ram.now c.loop-i.words c.args.first c.loop-i.i c.loop-i.invariant.words
    (omega (arith, c.loop-i-test.false, c.loop-i.auto.i-end)) c.loop-i.invariant.count
