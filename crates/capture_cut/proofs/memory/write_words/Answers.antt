use Rattle.std.proofs.Common.{◌+◌, ◌*◌, ◌-◌, ◌∙◌, arith}
use Rattle.picture_out.proofs.DumpLemmas.{length_put_mid}
use Rattle.capture_cut.proofs.Words.{word_on, words_whole}
use Rattle.capture_cut.proofs.memory.write_words.Goals as goal

pub loop-i-preserved : goal.loop-i-preserved
loop-i-preserved g c = record {
  count = length_put_mid c.loop-i.bytes c.put_word.new.bytes (4 * c.loop-i.i) (4 * c.loop-i.i + 4 - 4 * c.loop-i.i)
      (omega (arith, c.loop-i.invariant.count, c.loop-i-test.true)) (omega (arith, c.put_word.ensures.count))
      ∙ c.loop-i.invariant.count;
  bytes = word_on c.args.words.now c.loop-i.bytes c.put_word.new.bytes c.loop-i.i _ c.loop-i.invariant.bytes
      c.put_word.ensures.bytes c.put_word.ensures.count (omega (arith, c.told-words, c.loop-i-test.true))
      (omega (arith, c.loop-i.invariant.count, c.loop-i-test.true));
}

pub returns : goal.returns
returns g c =
    rw (← words_whole c.args.words.now c.loop-i.bytes c.loop-i.i c.loop-i.invariant.bytes
    (omega (arith, c.loop-i-test.false, c.loop-i.auto.i-end)) c.loop-i.invariant.count c.told-words)
    c.write_all.ensures
