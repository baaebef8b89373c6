use Rattle.std.proofs.Common.{◌≡◌, ◌+◌, get_or, ap, sym, ◌∙◌, arith}
use Rattle.gpu_taps.specs.Bare.{bare_note}
use Rattle.gpu_taps.specs.Tally.{capped, reading_after}
use Rattle.gpu_taps.proofs.Bare.{bare_more}
use Rattle.gpu_taps.proofs.tap.Tap.bare_notes.Goals as goal

pub loop-i-preserved : goal.loop-i-preserved
loop-i-preserved g c =
    let i = c.loop-i.i in
    let words = c.args.words.now in
    let number : c.saturating_add.result ≡ capped (c.args.played + 1 + i) =
    c.saturating_add.ensures ∙ (let e : c.args.played + (i + 1) ≡ c.args.played + 1 + i = omega arith in ap capped e) in
    let note = c.bare_note.ensures ∙ ap (λ n. bare_note c.args.class n (get_or words i 0)) number in
    c.note.ensures ∙ ap (λ note. reading_after note (g.Self.Tap.reading c.loop-i.self)) note
    ∙ ap (reading_after (bare_note c.args.class (capped (c.args.played + 1 + i)) (get_or words i 0))) c.loop-i.invariant
    ∙ sym (bare_more c.args.class (c.args.played + 1) words i (g.Self.Tap.reading c.args.self.now) c.loop-i-test.true)
