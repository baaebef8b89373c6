use Rattle.std.proofs.Common.{◌≡◌, ◌+◌, sym, ap, ◌∙◌, arith, append-nil}
use Rattle.circular_buffer.specs.Buffer.{keep_last}
use Rattle.gpu_taps.specs.Tally.{capped}
use Rattle.gpu_taps.proofs.KeptWords.{words_kept, keep_last-few}
use Rattle.gpu_taps.proofs.trace.keep_words.Goals as goal

pub loop-i-init : goal.loop-i-init
loop-i-init c = record {
  size = c.requires.size;
  items = sym (ap (keep_last 64) (append-nil c.args.notes.now.items)
      ∙ keep_last-few 64 c.args.notes.now.items c.requires.fits);
}

pub loop-i-preserved : goal.loop-i-preserved
loop-i-preserved c =
    let i = c.loop-i.i in
    let words = c.args.words.now in
    let inv = c.loop-i.invariant in
    let number : c.saturating_add-event.result ≡ capped (c.args.played + 1 + i) =
    c.saturating_add-event.ensures
    ∙ (let e : c.args.played + (i + 1) ≡ c.args.played + 1 + i = omega arith in ap capped e) in
    record {
      size = rw c.push_back.ensures.items inv.size;
      items = rw (c.push_back.ensures.items, inv.size, inv.items, number)
          (words_kept c.args.class (c.args.played + 1) words i c.args.notes.now.items c.loop-i-test.true);
    }
