use Rattle.std.proofs.Common.{◌≡◌, ◌+◌, take}
use Rattle.gpu_taps.specs.Bare.{bare_notes, after_notes}
use Rattle.gpu_taps.proofs.tap.Tap.bare_notes.Given as goal

abbrev pub invariant-loop-i : goal.invariant-loop-i
invariant-loop-i g l =
    g.Self.Tap.reading l.self ≡ after_notes (bare_notes l.class (l.played + 1) (take l.i l.words))
    (g.Self.Tap.reading l.initial.self)
