use Rattle.std.proofs.Common.{◌≡◌, ◌*◌, arith}
use Rattle.picture_out.specs.Picture.{picture_head, picture_of}
use Rattle.picture_out.proofs.PictureLemmas.{pixels_on, cost_more}
use Rattle.picture_out.proofs.sums.sum_of_area.Goals as goal

pub loop-done-preserved : goal.loop-done-preserved
loop-done-preserved g c = record {
  within = omega (arith, c.min-n.ensures, c.loop-done.invariant.within);
  given = rw (← pixels_on c.args.vram.now c.args.shown (picture_head c.args.shown) _ c.loop-done.done c.min-n.result
      c.pixels-bytes.ensures.bytes)
      (c.update.ensures _ c.loop-done.invariant.given);
  cost = cost_more _ _ _ c.loop-done.done c.min-n.result _ c.loop-done.invariant.cost c.pixels-bytes.ensures.cost;
}

pub returns-clause-value : goal.returns-clause-value
unfolding picture_of
returns-clause-value g c =
    let all : c.loop-done.done ≡ c.args.shown.width * c.args.shown.lines =
    omega (arith, c.loop-done.invariant.within, c.loop-done-test.false) in
    rw all at (c.finalize.ensures _ c.loop-done.invariant.given)
