use Rattle.std.proofs.Common.{arith}
use Rattle.demo_play.proofs.Sums.{sum_on}
use Rattle.demo_play.proofs.sum.sum_of_cells.Goals as goal

pub loop-y-preserved : goal.loop-y-preserved
loop-y-preserved g c = record {
  value = sum_on c.args.gpu.now.parts.m c.vram.result.now c.loop-y.y _ _ c.vram.ensures c.loop-y.invariant.value
      c.row_sum-total.ensures.value;
  bounds = omega (arith, c.loop-y.invariant.bounds, c.row_sum-total.ensures.bounds);
  cost = omega (arith, c.loop-y.invariant.cost, c.row_sum-total.ensures.cost);
}
