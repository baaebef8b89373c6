use Rattle.std.proofs.Common.{◌∙◌, ◌≡◌, arith, refl}
use Rattle.vram_copy.proofs.CopyLemmas.{row_more}
use Rattle.vram_copy.proofs.CostLemmas.{first_begins, row_begins, row_spent, row_whole}
use Rattle.vram_copy.proofs.copies.copy_row.Goals as goal

pub loop-done-init : goal.loop-done-init
loop-done-init g c = record {
  in_row = omega arith;
  begins = λ some. first_begins c.args.way.from c.args.way.to;
  cells = refl;
  long = refl;
  cost = omega arith;
}

pub loop-done-preserved : goal.loop-done-preserved
loop-done-preserved g c = record {
  in_row = let lt = c.loop-done-test.true in let le = c.piece_len-n.ensures.in_row in omega (arith, lt, le);
  begins = λ more. row_begins c.args.way.from c.args.way.to c.cell_right-from.result c.cell_right-to.result c.args.w
      c.loop-done.done c.piece_len-n.result
      c.cell_right-from.ensures.value c.cell_right-to.ensures.value
      (c.loop-done.invariant.begins c.loop-done-test.true) c.piece_len-n.ensures.value more;
  cells = row_more _ _ _ c.args.mask c.args.way.from c.args.way.to c.cell_right-from.result c.cell_right-to.result
      c.loop-done.done c.piece_len-n.result
      c.cell_right-from.ensures.value c.cell_right-to.ensures.value c.piece_len-n.ensures.in_source
      c.piece_len-n.ensures.in_target
      c.loop-done.invariant.cells c.copy_piece.ensures.cells;
  long = c.copy_piece.ensures.long ∙ c.loop-done.invariant.long;
  cost = row_spent c.args.way.from c.args.way.to c.cell_right-from.result c.cell_right-to.result c.args.w
      c.loop-done.done c.piece_len-n.result
      c.cell_right-from.ensures.value c.cell_right-to.ensures.value
      (c.loop-done.invariant.begins c.loop-done-test.true)
      c.piece_len-n.ensures.value _ _ _ c.loop-done.invariant.cost c.copy_piece.ensures.cost;
}

pub returns-clause-cost : goal.returns-clause-cost
returns-clause-cost g c =
    let all : c.loop-done.done ≡ c.args.w = let over = c.loop-done-test.false in
    let le = c.loop-done.invariant.in_row in omega (arith, over, le) in
    rw (← row_whole c.args.way.from c.args.way.to c.args.w c.loop-done.done all) c.loop-done.invariant.cost
