use Rattle.std.proofs.Common.{◌*◌, take, arith}
use Rattle.picture_out.specs.Dump.{dump}
use Rattle.picture_out.proofs.DumpLemmas.{row_on}
use Rattle.picture_out.proofs.sums.vram_sum.Goals as goal

pub loop-y-preserved : goal.loop-y-preserved
loop-y-preserved g c = record {
  given = rw (row_on _ _ _ c.row_bytes-bytes.ensures.bytes, ← c.as_slice.ensures)
      (c.update.ensures (dump (take (1024 * c.loop-y.y) c.args.vram.now)) c.loop-y.invariant.given);
  cost = omega (arith, c.loop-y.invariant.cost, c.row_bytes-bytes.ensures.cost);
}
