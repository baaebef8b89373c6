use Rattle.std.proofs.Common.{arith}
use Rattle.vram_copy.proofs.MoveLemmas.{moved_run, move_spent}
use Rattle.vram_copy.proofs.copies.copy_piece.Goals as goal

pub returns-then-can_move-clause-cells : goal.returns-then-can_move-clause-cells
returns-then-can_move-clause-cells g c =
    let plain = c.can_move.ensures.0 c.if-can_move.true in
    moved_run c.args.vram.now c.copy_run.new.self c.args.mask c.args.way.from c.args.way.to c.args.n
    plain.0 plain.1 plain.2
    c.requires.source_in.0 c.requires.target_in.0 (omega (arith, c.requires.target_in))
    c.copy_run.ensures.cells

pub returns-then-can_move-clause-cost : goal.returns-then-can_move-clause-cost
returns-then-can_move-clause-cost g c =
    let bound = move_spent c.args.way.from c.args.way.to c.args.n in
    omega (arith, bound, c.copy_run.ensures.cost)
