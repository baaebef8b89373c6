use Rattle.std.proofs.Common.{◌≡◌, ◌+◌, ◌-◌, take, drop, length, length-drop, sym, ap, ◌∙◌, arith}
use Rattle.std.proofs.lemmas.List.{take_all}
use Rattle.gpu_taps.specs.Bare.{bare_notes}
use Rattle.gpu_taps.specs.Tally.{trace_numbers}
use Rattle.gpu_taps.proofs.KeptWords.{trace_after_notes, last_kept}
use Rattle.gpu_taps.proofs.trace.TraceTap.bare_notes.Goals as goal

pub returns : goal.returns
returns c =
    let kept = c.args.self.now.notes.items in
    let words = c.args.words.now in
    let gone = length words - 64 in
    let rest : take (length words - gone) (drop gone words) ≡ drop gone words =
    take_all (length words - gone) (drop gone words) (omega (arith, length-drop gone words)) in
    rw (c.keep_words.ensures.items, c.saturating_add.ensures, c.saturating_sub-gone.ensures, rest)
    (ap (λ l. record { kind = 1; numbers = trace_numbers l })
    (last_kept c.args.class c.args.played words kept c.args.self.now.fits)
    ∙ sym (trace_after_notes (bare_notes c.args.class (c.args.played + 1) words) kept c.args.self.now.fits))
