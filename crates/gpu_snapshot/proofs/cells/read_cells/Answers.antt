use Rattle.std.proofs.Common.{◌∙◌, arith}
use Rattle.gpu_snapshot.proofs.CellWords.{block_next, others_on, row_lacks}
use Rattle.gpu_snapshot.proofs.cells.read_cells.Goals as goal

pub returns-in-Err-clause-fault : goal.returns-in-Err-clause-fault
returns-in-Err-clause-fault g c =
    row_lacks _ _ _ c.rows.rig.gpu.parts.m c.args.offset c.rows.y c.args.rows _
    (omega (arith, c.requires.rows.all, c.rows.invariant.long)) c.rows-test.true c.rows.invariant.takes
    c.in-Err.ensures.fault

pub rows-preserved : goal.rows-preserved
rows-preserved g c = record {
  takes = c.set_row.ensures.row _ _ (block_next _ _ _ _ c.take_block.new.block c.rows.invariant.takes
      c.in_default.ensures.takes);
  others = others_on c.args.rig.now c.rows.rig c.set_row.new.rig c.rows.invariant.others c.set_row.ensures.others;
  long = c.set_row.ensures.long ∙ c.rows.invariant.long;
  cost = omega (arith, c.rows.invariant.cost, c.set_row.ensures.cost);
  faults = omega (arith, c.rows.invariant.faults, c.in_default.ensures.cause.faults);
}
