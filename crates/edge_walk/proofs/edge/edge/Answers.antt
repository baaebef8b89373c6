use Rattle.std.proofs.Common.{SFits, w32, w64, arith, rules, ◌-ℤ◌}
use Rattle.std.proofs.lemmas.Int.{to_z-of_z, ints}
use Rattle.edge_walk.specs.Triangle.{edge}
use Rattle.edge_walk.proofs.edge.edge.Goals as goal

pub overflow_sub-result : goal.overflow_sub-result
overflow_sub-result c = omega (arith, ints, c.product-across.ensures.bound, c.product-down.ensures.bound)

pub returns : goal.returns
unfolding edge
returns c =
    let px : SFits w32 c.args.p.now.x = search rules in
    let py : SFits w32 c.args.p.now.y = search rules in
    let qx : SFits w32 c.args.q.now.x = search rules in
    let qy : SFits w32 c.args.q.now.y = search rules in
    let x_fits = c.ranges.x in
    let y_fits = c.ranges.y in
    let one : SFits w64 c.difference.result = search rules in
    let two : SFits w64 c.difference-2.result = search rules in
    let three : SFits w64 c.difference-3.result = search rules in
    let four : SFits w64 c.difference-4.result = search rules in
    let five : SFits w64 c.product-across.result = search rules in
    let six : SFits w64 c.product-down.result = search rules in
    let all : SFits w64 (c.product-across.result -ℤ c.product-down.result) = omega
    (arith, ints, c.product-across.ensures.bound, c.product-down.ensures.bound) in
    let e1 = simp to_z-of_z at c.difference.ensures.value in
    let e2 = simp to_z-of_z at c.difference-2.ensures.value in
    let e3 = simp to_z-of_z at c.difference-3.ensures.value in
    let e4 = simp to_z-of_z at c.difference-4.ensures.value in
    let e5 = simp to_z-of_z at c.product-across.ensures.value in
    let e6 = simp to_z-of_z at c.product-down.ensures.value in
    simp to_z-of_z cc
