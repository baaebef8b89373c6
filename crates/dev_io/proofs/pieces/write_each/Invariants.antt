use Rattle.std.proofs.Common.{◌≡◌, ◌≤◌, take, flat_map}
use Rattle.dev_io.specs.Device.{appended}
use Rattle.dev_io.proofs.pieces.write_each.Given as goal

abbrev pub invariant-loop-piece : goal.invariant-loop-piece
invariant-loop-piece g l = record {
  held : g.K.Sink.held l.sink ≡ appended (g.K.Sink.held l.initial.sink)
      (flat_map (λ piece. piece.now) (take l.piece-index l.pieces));
  faults : g.K.Sink.faults l.initial.sink ≤ g.K.Sink.faults l.sink;
}
