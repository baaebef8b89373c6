use Rattle.std.proofs.Common.{◌^◌, SFits, w64, arith, pos, ◌+ℤ◌, ◌*ℤ◌}
use Rattle.std.proofs.lemmas.Int.{to_z-of_z, ints, fits_signed_mul}
use Rattle.edge_walk.proofs.SideLemmas.{far_small}
use Rattle.edge_walk.proofs.edge_stepper.raised.Goals as goal

pub overflow_cast-result : goal.overflow_cast-result
overflow_cast-result c =
    let value_fits = c.ranges.value in
    let scale_fits = c.ranges.scale in
    let slack_fits = c.ranges.slack in
    let far = far_small c.args.value c.args.scale (omega arith) c.requires.scale in
    let far_fits = fits_signed_mul w64 c.args.value c.args.scale (2 ^ 20) (2 ^ 41) (omega arith) c.requires.scale
    (omega arith) in
    let sum_fits : SFits w64 (c.args.value *ℤ c.args.scale +ℤ c.args.slack) = omega (arith, ints, far) in
    let all_fits : SFits w64 (c.args.value *ℤ c.args.scale +ℤ c.args.slack +ℤ pos (2 ^ 62)) = omega
    (arith, ints, far) in
    simp to_z-of_z (omega (arith, ints, far), omega (arith, ints, far))

pub returns : goal.returns
returns c =
    let value_fits = c.ranges.value in
    let scale_fits = c.ranges.scale in
    let slack_fits = c.ranges.slack in
    let far = far_small c.args.value c.args.scale (omega arith) c.requires.scale in
    let far_fits = fits_signed_mul w64 c.args.value c.args.scale (2 ^ 20) (2 ^ 41) (omega arith) c.requires.scale
    (omega arith) in
    let sum_fits : SFits w64 (c.args.value *ℤ c.args.scale +ℤ c.args.slack) = omega (arith, ints, far) in
    let all_fits : SFits w64 (c.args.value *ℤ c.args.scale +ℤ c.args.slack +ℤ pos (2 ^ 62)) = omega
    (arith, ints, far) in
    simp to_z-of_z (omega (arith, ints, far))
