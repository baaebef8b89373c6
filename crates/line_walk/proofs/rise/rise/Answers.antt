use Rattle.std.proofs.Common.{◌<◌, ◌^◌, ◌≡◌, ◌+◌, ◌-◌, ◌*◌, ◌/◌, unsigned_abs, pos, ◌-ℤ◌, ◌≤ℤ◌, ◌<ℤ◌, w64, SFits, arith}
use Rattle.std.proofs.lemmas.Int.{to_z-of_z, to_z_pos, ints}
use Rattle.line_walk.proofs.RiseLemmas.{rise-up, rise-down}
use Rattle.line_walk.proofs.rise.rise.Goals as goal

pub returns-then-d-ge0 : goal.returns-then-d-ge0
returns-then-d-ge0 c =
    let low : c.distance.result < 2 ^ 63 = omega arith in
    let d_fits = c.ranges.d in
    let far : c.unsigned_abs-far.result ≡ unsigned_abs c.args.d = simp to_z-of_z at c.unsigned_abs-far.ensures.value in
    let is : c.distance.result ≡ (2 * c.args.k * unsigned_abs c.args.d + c.args.n) /
    (2 * c.args.n) = rw (← far) c.distance.ensures in
    let not_less : pos 0 ≤ℤ c.args.d = omega (arith, ints, simp to_z-of_z at c.if-d-ge0.true) in
    simp to_z_pos (rise-up c.args.d c.args.n c.args.k c.distance.result c.requires.some not_less is)

pub returns-else-d-ge0 : goal.returns-else-d-ge0
returns-else-d-ge0 c =
    let low : c.distance-else-d-ge0.result < 2 ^ 63 = omega arith in
    let d_fits = c.ranges.d in
    let fits : SFits w64 (pos 0 -ℤ pos c.distance-else-d-ge0.result) = omega (arith, ints) in
    let far : c.unsigned_abs-far.result ≡ unsigned_abs c.args.d = simp to_z-of_z at c.unsigned_abs-far.ensures.value in
    let is : c.distance-else-d-ge0.result ≡ (2 * c.args.k * unsigned_abs c.args.d + (c.args.n - 1)) /
    (2 * c.args.n) = rw (← far) c.distance-else-d-ge0.ensures in
    let less : c.args.d <ℤ pos 0 = omega (arith, ints, simp to_z-of_z at c.if-d-ge0.false) in
    simp (to_z_pos, to_z-of_z)
    (rise-down c.args.d c.args.n c.args.k c.distance-else-d-ge0.result c.requires.some less is)
