use Rattle.packet_text.proofs.Fits.{next_fits}
use Rattle.packet_text.proofs.line.line_text.Goals as goal

pub unreachable-requires : goal.unreachable-requires
unreachable-requires c =
    let ok = c.in-Err.ensures.variant.1
    (next_fits (λ piece. piece.now) c.args.pieces.now c.loop-piece.piece-index _ c.loop-piece.text.items 128
    c.loop-piece-test.true c.loop-piece.invariant.gathered c.requires) in
    cc
