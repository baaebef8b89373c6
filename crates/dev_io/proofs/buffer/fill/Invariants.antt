use Rattle.std.proofs.Common.{length, ◌-◌, ◌≤◌}
use Rattle.dev_io.specs.Device.{Gives}
use Rattle.dev_io.proofs.buffer.fill.Given as goal

abbrev pub invariant-loop-n : goal.invariant-loop-n
invariant-loop-n g l = record {
  so_far : Gives (g.S.Source.left l.initial.source) (g.S.Source.left l.source) l.buf l.n;
  faults : g.S.Source.faults l.initial.source ≤ g.S.Source.faults l.source;
}

abbrev pub decreases-loop-n : goal.decreases-loop-n
decreases-loop-n g l = length l.buf - l.n
