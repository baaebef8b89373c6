use Rattle.std.proofs.Common.{arith, ◌∙◌, ◌*◌, ◌+◌, ◌-◌}
use Rattle.vram_store.proofs.Loaded.{loaded_lanes}
use Rattle.picture_out.proofs.DumpLemmas.{row_more, whole_row, length_put_mid}
use Rattle.picture_out.proofs.dump.row_bytes.Goals as goal

pub loop-k-preserved : goal.loop-k-preserved
loop-k-preserved g c = record {
  count = length_put_mid c.loop-k.bytes c.put_lanes.new.bytes (32 * c.loop-k.k)
      (32 * c.loop-k.k + 32 - 32 * c.loop-k.k) (omega (arith, c.loop-k.invariant.count, c.loop-k-test.true))
      (omega (arith, c.put_lanes.ensures.count)) ∙ c.loop-k.invariant.count;
  bytes = row_more _ _ _ _ _ _ _ c.loop-k.invariant.bytes c.put_lanes.ensures.lanes
      (loaded_lanes _ _ _ c.load16.ensures.lanes)
      (omega (arith, c.loop-k.invariant.count, c.loop-k-test.true)) c.put_lanes.ensures.count;
  cost = omega (arith, c.loop-k.invariant.cost, c.load16.ensures.cost);
}

pub returns-clause-bytes : goal.returns-clause-bytes
returns-clause-bytes g c = whole_row c.args.vram.now c.loop-k.bytes c.args.y c.loop-k.k c.loop-k.invariant.bytes
    (omega (arith, c.loop-k-test.false, c.loop-k.auto.k-end)) c.loop-k.invariant.count
