use Rattle.std.proofs.Common.{arith}
use Rattle.std.proofs.lemmas.Result.{err_from_is_err_and}
use Rattle.dev_io.proofs.Writing.{wrote_on, fails_on}
use Rattle.picture_out.proofs.DumpLemmas.{row_on, dump_three}
use Rattle.picture_out.proofs.dump.write_vram.Goals as goal

pub returns-in_err-write_all-clause-writes : goal.returns-in_err-write_all-clause-writes
returns-in_err-write_all-clause-writes g c =
    let p = err_from_is_err_and c.from_residual.result c.from_residual.ensures.1 in
    rw (p.1, p.2, dump_three c.args.vram.now c.loop-y.y, ← c.row_bytes-bytes.ensures.bytes)
    (fails_on _ _ _ _ _ _ _ _ c.loop-y.invariant.wrote c.in_err-write_all.ensures)

pub loop-y-preserved : goal.loop-y-preserved
loop-y-preserved g c = record {
  wrote = rw (row_on _ _ _ c.row_bytes-bytes.ensures.bytes)
      (wrote_on _ _ _ _ _ _ _ c.loop-y.invariant.wrote c.in_ok-write_all.ensures);
  cost = omega (arith, c.loop-y.invariant.cost, c.row_bytes-bytes.ensures.cost);
}
