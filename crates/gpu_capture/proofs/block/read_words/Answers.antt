use Rattle.std.proofs.Common.{◌+◌, ◌*◌, refl, arith}
use Rattle.gpu_capture.specs.Reader.{reader_input}
use Rattle.gpu_capture.specs.Words.{progress_after_words}
use Rattle.gpu_capture.proofs.Words.{none_taken, words_on, word_taken, word_in}
use Rattle.gpu_capture.proofs.block.read_words.Goals as goal

pub loop-i-init : goal.loop-i-init
loop-i-init c = record {
  count = rw c.requires.empty refl;
  takes = λ now. rw c.requires.empty (none_taken c.args.progress.now _ c.requires.can.may _);
}

pub loop-i-preserved : goal.loop-i-preserved
loop-i-preserved c = record {
  count = omega arith;
  takes = λ now.
      let lt = c.loop-i-test.true in
      let below = c.requires.can.may.below_limit in
      let p = c.args.progress.now in
      let took = word_in c.args.bytes.now c.loop-i.i (p.offset + 4 * c.loop-i.i) c.read_u32.result now
      (omega (arith, lt, below)) (omega (arith, lt)) c.read_u32.ensures in
      rw c.push.ensures.items
      (words_on (reader_input p _) (reader_input (progress_after_words p c.loop-i.i) _)
      (reader_input (progress_after_words p (c.loop-i.i + 1)) _)
      c.loop-i.words.items c.read_u32.result (c.loop-i.invariant.takes now)
      (word_taken p _ c.requires.can.may c.loop-i.i c.read_u32.result lt _ _ took) (omega arith));
}
