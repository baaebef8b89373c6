use Rattle.std.proofs.Common.{◌≡◌, take, flat_map}
use Rattle.dev_io.proofs.pieces.gather.Given as goal

abbrev pub invariant-loop-piece : goal.invariant-loop-piece
invariant-loop-piece l = record {
  gathered : l.gathered.items ≡ flat_map (λ piece. piece.now) (take l.piece-index l.pieces);
}
