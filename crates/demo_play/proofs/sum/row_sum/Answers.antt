use Rattle.std.proofs.Common.{arith}
use Rattle.vram_store.proofs.Loaded.{loaded_lanes}
use Rattle.demo_play.proofs.Sums.{lanes_more}
use Rattle.demo_play.proofs.sum.row_sum.Goals as goal

pub loop-k-preserved : goal.loop-k-preserved
loop-k-preserved g c = record {
  value = let more = lanes_more _ _ _ c.loop-k.k (loaded_lanes _ _ _ c.load16.ensures.lanes) in
      omega (arith, more, c.loop-k.invariant.value, c.lanes_sum-total.ensures.value);
  bounds = omega (arith, c.loop-k.invariant.bounds, c.lanes_sum-total.ensures.bounds);
  cost = omega (arith, c.loop-k.invariant.cost, c.load16.ensures.cost);
}
