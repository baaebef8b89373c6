use Rattle.std.proofs.Common.{List, [], ◌∷◌, ◌++◌, ◌∙◌, refl, lit<, length, length-append, ap, arith, ◌+◌, ◌≤◌, ◌<◌}
use Rattle.gathered_out.specs.Pieces.{Piece, bytes_of}
use Rattle.gathered_out.proofs.Pieces.{cut_bytes, cut_count, cut_more, total_more}
use Rattle.gathered_out.proofs.output_buffer.OutputBuffer.add.Goals as goal

pub unreachable-requires : goal.unreachable-requires
unreachable-requires c =
    let inside = c.self.inside in
    let all = ap length (cut_bytes inside.extents.items inside.bytes.items c.self.invariant) in
    let now = ap (λ (ps : List Piece). length (bytes_of ps)) c.self.view_is in
    let fits : length inside.bytes.items + length c.args.bytes.now ≤ 4096 = omega
    (arith, all, now, c.requires.bytes) in
    let ok = c.in-Err.ensures.variant.1 fits in cc

pub push-requires : goal.push-requires
push-requires c =
    let inside = c.self.inside in
    let now = ap (λ (ps : List Piece). length ps) c.self.view_is in
    let n : length inside.extents.items < 512 = omega
    (arith, cut_count inside.extents.items inside.bytes.items, now, c.requires.pieces) in
    (lit< tt, n)

pub invariant_of-self : goal.invariant_of-self
invariant_of-self c =
    let inside = c.self.inside in
    rw (c.push.ensures.items, c.in_default.ensures.ok)
    (total_more inside.extents.items _
    ∙ omega (arith, c.self.invariant, length-append inside.bytes.items c.args.bytes.now))

pub returns : goal.returns
returns c =
    let inside = c.self.inside in
    rw (c.push.ensures.items, c.in_default.ensures.ok)
    (cut_more inside.extents.items _ inside.bytes.items c.args.bytes.now c.self.invariant refl
    ∙ ap (λ (ps : List Piece). ps ++ record { number = c.args.number; bytes = c.args.bytes.now } ∷ [])
    c.self.view_is)
