use Rattle.std.proofs.Common.{◌≤◌, ◌+◌, ◌*◌, ◌-◌, ◌∙◌, length, arith}
use Rattle.picture_out.proofs.DumpLemmas.{length_put_mid}
use Rattle.picture_out.proofs.PictureLemmas.{pixels_more, part_long, part_count, cost_more}
use Rattle.picture_out.proofs.picture.pixels.Goals as goal

pub loop-done-preserved : goal.loop-done-preserved
loop-done-preserved g c =
    let within : c.loop-done.done + c.min-count.result ≤ c.args.n =
    omega (arith, c.min-count.ensures, c.loop-done.invariant.within) in
    let fits : 3 * c.loop-done.done + 3 * c.min-count.result ≤ length c.loop-done.bytes =
    omega (arith, within, c.requires.few, c.loop-done.invariant.count) in
    let long = c.put_pixels.ensures.count ∙ part_long _ _ _ fits in
    let n = part_count c.loop-done.bytes c.loop-done.done c.min-count.result fits in
    let below : 3 * c.loop-done.done ≤ length c.loop-done.bytes = omega (arith, fits) in
    record {
      within = within;
      count = length_put_mid c.loop-done.bytes c.put_pixels.new.bytes (3 * c.loop-done.done)
          (3 * c.loop-done.done + 3 * c.min-count.result - 3 * c.loop-done.done) (omega (arith, fits))
          (omega (arith, long)) ∙ c.loop-done.invariant.count;
      bytes = pixels_more _ _ _ c.loop-done.done c.min-count.result _ _ _ c.loop-done.invariant.bytes
          (rw n at c.put_pixels.ensures.bytes) long below;
      cost = cost_more _ _ _ c.loop-done.done c.min-count.result _ c.loop-done.invariant.cost
          (rw n at c.put_pixels.ensures.cost);
    }
