use Rattle.std.proofs.Common.{◌≡◌, ◌≤◌, ◌<◌, ◌+◌, ◌*◌, ◌%◌, length, arith}
use Rattle.std.proofs.lemmas.Grind.{common_steps}
use Rattle.picture_out.specs.Picture.{numbered_pixel}
use Rattle.picture_out.proofs.PictureLemmas.{pixel_in_row, pixel_long, pixel_more}
use Rattle.picture_out.proofs.rows.put_pixels.Goals as goal

pub loop-i-preserved : goal.loop-i-preserved
loop-i-preserved g c =
    let lt : c.args.first % c.args.shown.width + c.loop-i.i < c.args.shown.width =
    omega (arith, c.requires.in_row, c.loop-i-test.true, c.loop-i.auto.i-end) in
    let seen = rw (c.wrap_at-y.ensures.value, c.height.ensures.rows) at c.pixel-pixel.ensures.bytes in
    let is : c.pixel-pixel.result ≡ numbered_pixel c.args.vram.now c.args.shown (c.args.first + c.loop-i.i) =
    rw (pixel_in_row c.args.vram.now c.args.shown c.args.first c.loop-i.i lt) seen in
    let long : length c.pixel-pixel.result ≡ 3 =
    rw c.pixel-pixel.ensures.bytes (pixel_long c.args.vram.now c.args.shown _ _) in
    let le : 3 * c.loop-i.i + 3 ≤ length c.loop-i.bytes =
    omega (arith, c.loop-i.invariant.count, c.loop-i-test.true, c.loop-i.auto.i-end) in
    record {
      count = grind (arith, common_steps, c.loop-i.invariant.count);
      bytes = pixel_more _ _ _ c.loop-i.i _ _ c.loop-i.invariant.bytes is long le;
      cost = omega (arith, c.loop-i.invariant.cost, c.pixel-pixel.ensures.cost);
    }
