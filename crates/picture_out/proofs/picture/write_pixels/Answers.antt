use Rattle.std.proofs.Common.{◌+◌, ◌*◌, arith}
use Rattle.std.proofs.lemmas.Result.{err_from_is_err_and}
use Rattle.dev_io.proofs.Writing.{underway_on, underway_fails}
use Rattle.picture_out.proofs.PictureLemmas.{pixels_next, cost_more, cost_part}
use Rattle.picture_out.proofs.picture.write_pixels.Goals as goal

pub returns-in_err-write_all-clause-writes : goal.returns-in_err-write_all-clause-writes
returns-in_err-write_all-clause-writes g c =
    let p = err_from_is_err_and c.from_residual.result c.from_residual.ensures.1 in
    rw (p.1, p.2) (underway_fails _ _ _ _ _ _ _ _ _ c.loop-done.invariant.wrote
    (pixels_next _ _ c.loop-done.done c.min-n.result (c.args.shown.width * c.args.shown.lines) _
    (omega (arith, c.min-n.ensures))
    c.pixels-bytes.ensures.bytes) c.in_err-write_all.ensures)

pub returns-in_err-write_all-clause-cost_at_most : goal.returns-in_err-write_all-clause-cost_at_most
returns-in_err-write_all-clause-cost_at_most g c =
    cost_part _ _ (c.loop-done.done + c.min-n.result) _ _ (omega (arith, c.min-n.ensures, c.loop-done.invariant.within))
    (cost_more _ _ _ c.loop-done.done c.min-n.result _ c.loop-done.invariant.cost c.pixels-bytes.ensures.cost)

pub loop-done-preserved : goal.loop-done-preserved
loop-done-preserved g c = record {
  within = omega (arith, c.min-n.ensures, c.loop-done.invariant.within);
  wrote = underway_on _ _ _ _ _ _ _ _ _ c.loop-done.invariant.wrote
      (pixels_next _ _ c.loop-done.done c.min-n.result (c.args.shown.width * c.args.shown.lines) _
      (omega (arith, c.min-n.ensures))
      c.pixels-bytes.ensures.bytes) c.in_ok-write_all.ensures;
  cost = cost_more _ _ _ c.loop-done.done c.min-n.result _ c.loop-done.invariant.cost c.pixels-bytes.ensures.cost;
}
