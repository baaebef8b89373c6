use Rattle.std.proofs.Common.{SFits, w32, arith, rules}
use Rattle.std.proofs.lemmas.Int.{ints}
use Rattle.edge_walk.proofs.AreaLemmas.{area_held}
use Rattle.edge_walk.proofs.triangle.Tri.attribute_setup.Goals as goal

pub invariant_of-result : goal.invariant_of-result
invariant_of-result c =
    let t = c.oriented_triangle.result in
    let ax : SFits w32 t.a.x = search rules in
    let ay : SFits w32 t.a.y = search rules in
    let bx : SFits w32 t.b.x = search rules in
    let by : SFits w32 t.b.y = search rules in
    let cx : SFits w32 t.c.x = search rules in
    let cy : SFits w32 t.c.y = search rules in
    record {
      divisor_is = (area_held _ _ _ _ _ c.requires c.oriented_triangle.ensures.same t.oriented_triangle).divisor;
      above = record {
        first = record { across = omega (arith, ints); down = omega (arith, ints) };
        second = record { across = omega (arith, ints); down = omega (arith, ints) };
        third = record { across = omega (arith, ints); down = omega (arith, ints) };
      };
    }
