use Rattle.std.proofs.Common.{ap}
use Rattle.gpu_taps.specs.Tally.{tally, reading_after}
use Rattle.gpu_taps.proofs.Numbers.{trace_after-is}
use Rattle.gpu_taps.proofs.trace.TraceTap.note.Goals as goal

pub returns : goal.returns
unfolding tally reading_after
returns c = rw (c.push_back.ensures.items, c.of.ensures) (ap (λ l. record { kind = 1; numbers = l })
    (trace_after-is c.args.self.now.notes.items c.args.note.now _ c.args.self.now.size c.args.self.now.fits))
