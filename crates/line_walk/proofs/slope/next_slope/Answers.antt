use Rattle.std.proofs.Common.{◌+ℤ◌, w32, w64, SFits, rules, arith}
use Rattle.std.proofs.lemmas.Int.{to_z-of_z, ints}
use Rattle.line_walk.proofs.SlopeLemmas.{slope_on}
use Rattle.line_walk.proofs.slope.next_slope.Goals as goal

pub returns : goal.returns
returns c from to n k is =
    let s = c.args.slope in
    let near = c.requires in
    let step : SFits w32 s.step = search rules in
    let wide : SFits w64 s.step = omega (arith, ints, step) in
    let place : SFits w64 s.place = omega (arith, ints, near) in
    let sum : SFits w64 (s.place +ℤ s.step) = omega (arith, ints, near, step) in
    simp to_z-of_z (slope_on from to n k s is)
