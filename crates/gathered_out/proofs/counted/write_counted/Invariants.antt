use Rattle.std.proofs.Common.{length, take, ◌-◌, ◌≡◌, ◌≤◌}
use Rattle.dev_io.specs.Device.{appended}
use Rattle.gathered_out.proofs.counted.write_counted.Given as goal

abbrev pub invariant-loop-at : goal.invariant-loop-at
invariant-loop-at g l = record {
  in_piece : l.at ≤ length l.piece;
  held : g.K.Sink.held l.out ≡ appended (g.K.Sink.held l.initial.out) (take l.at l.piece);
  faults : g.K.Sink.faults l.initial.out ≤ g.K.Sink.faults l.out;
}

abbrev pub decreases-loop-at : goal.decreases-loop-at
decreases-loop-at g l = length l.piece - l.at
