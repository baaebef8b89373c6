use Rattle.std.proofs.Common.{◌≡◌, take, flat_map}
use Rattle.packet_text.proofs.line.line_text.Given as goal

abbrev pub invariant-loop-piece : goal.invariant-loop-piece
invariant-loop-piece l = record {
  gathered : l.text.items ≡ flat_map (λ piece. piece.now) (take l.piece-index l.pieces);
}
