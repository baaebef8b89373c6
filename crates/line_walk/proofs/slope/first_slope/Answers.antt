use Rattle.std.proofs.Common.{◌≡◌, ◌<◌, ◌+ℤ◌, ◌-ℤ◌, ◌*ℤ◌, ◌^◌, ℤ, pos, w32, w64, SFits, rules, arith}
use Rattle.std.specs.Int.{int_div_euclid}
use Rattle.std.proofs.lemmas.Int.{to_z-of_z, to_z_pos, ints}
use Rattle.px_num.specs.Floor.{IsFloor}
use Rattle.px_num.proofs.FloorLemmas.{floor_is}
use Rattle.line_walk.proofs.SlopeLemmas.{slope_first, step_small}
use Rattle.line_walk.proofs.slope.first_slope.Goals as goal

pub returns : goal.returns
returns c =
    let from : ℤ = c.args.run.now.from in
    let to : ℤ = c.args.run.now.to in
    let near = c.requires.near in
    let from_fits : SFits w32 from = search rules in
    let to_fits : SFits w32 to = search rules in
    let step_fits : SFits w32 c.div_euclid-step.result = search rules in
    let less : SFits w32 (to -ℤ from) = omega (arith, ints, near) in
    let parts : SFits w32 ((to -ℤ from) *ℤ pos (2 ^ 21)) = omega (arith, ints, near) in
    let low : c.args.n < 2 ^ 31 = (let most = c.requires.steps in omega (arith, most)) in
    let value : c.div_euclid-step.result ≡ int_div_euclid ((to -ℤ from) *ℤ pos (2 ^ 21)) (pos c.args.n) = simp
    (to_z-of_z, to_z_pos) at c.div_euclid-step.ensures in
    let floor : IsFloor c.div_euclid-step.result ((to -ℤ from) *ℤ pos (2 ^ 21)) (pos c.args.n) =
    rw value (floor_is ((to -ℤ from) *ℤ pos (2 ^ 21)) (pos c.args.n)
    (let some = c.requires.some in omega (arith, ints, some))) in
    let small = step_small c.div_euclid-step.result ((to -ℤ from) *ℤ pos (2 ^ 21)) c.args.n c.requires.some floor
    (omega (arith, ints, near)) in
    let next_fits : SFits w32 (c.div_euclid-step.result +ℤ pos 1) = omega (arith, ints, step_fits, small) in
    let from_wide : SFits w64 from = omega (arith, ints, from_fits) in
    let scaled : SFits w64 (from *ℤ pos (2 ^ 21)) = omega (arith, ints, from_fits) in
    let placed : SFits w64 (from *ℤ pos (2 ^ 21) +ℤ pos (2 ^ 20)) = omega (arith, ints, from_fits) in
    simp to_z-of_z (slope_first from to c.div_euclid-step.result c.args.n c.requires.some floor)
