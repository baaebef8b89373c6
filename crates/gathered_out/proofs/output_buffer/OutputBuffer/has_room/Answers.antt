use Rattle.std.proofs.Common.{List, length, ap, arith}
use Rattle.gathered_out.specs.Pieces.{Piece, bytes_of}
use Rattle.gathered_out.proofs.Pieces.{cut_bytes, cut_count}
use Rattle.gathered_out.proofs.output_buffer.OutputBuffer.has_room.Goals as goal

pub returns-clause-bytes : goal.returns-clause-bytes
returns-clause-bytes c = λ fits.
    let inside = c.self.inside in
    let all = ap length (cut_bytes inside.extents.items inside.bytes.items c.self.invariant) in
    let now = ap (λ (ps : List Piece). length (bytes_of ps)) c.self.view_is in
    omega (arith, all, now, c.fits.ensures.bytes fits, c.len.ensures.value)

pub returns-clause-pieces : goal.returns-clause-pieces
returns-clause-pieces c = λ fits.
    let inside = c.self.inside in
    let now = ap (λ (ps : List Piece). length ps) c.self.view_is in
    omega (
      arith,
      cut_count inside.extents.items inside.bytes.items,
      now,
      c.fits.ensures.pieces fits,
      c.len-2.ensures.value,
    )
