use Rattle.std.proofs.Common.{◌∙◌, sym, ap, arith}
use Rattle.std.proofs.lemmas.Int.{to_z-of_z, ints}
use Rattle.edge_walk.specs.Attribute.{mixed_of}
use Rattle.edge_walk.proofs.AreaLemmas.{area_held}
use Rattle.edge_walk.proofs.Corner.{inside_is}
use Rattle.edge_walk.proofs.MixLemmas.{mixed_is}
use Rattle.edge_walk.proofs.triangle.Tri.attr_at.Goals as goal

pub weights_at-weights-requires : goal.weights_at-weights-requires
weights_at-weights-requires c =
    let x_fits = c.ranges.x in
    let y_fits = c.ranges.y in
    let t = c.oriented_triangle-t.result in
    simp to_z-of_z (sym (inside_is c.args.self.now t.a t.b t.c c.oriented_triangle-t.ensures.same c.args.x c.args.y)
    ∙ c.requires.inside)

pub mixed-requires-clause-divisor : goal.mixed-requires-clause-divisor
mixed-requires-clause-divisor c =
    (area_held _ _ _ _ _ c.area_divisor.ensures c.oriented_triangle-t.ensures.same
    c.oriented_triangle-t.result.oriented_triangle).divisor

pub mixed-requires-clause-area : goal.mixed-requires-clause-area
mixed-requires-clause-area c =
    let area = area_held _ _ _ _ _ c.area_divisor.ensures c.oriented_triangle-t.ensures.same
    c.oriented_triangle-t.result.oriented_triangle in
    omega (arith, ints, area.is, c.weights_at-weights.ensures.sum)

pub returns-clause-value : goal.returns-clause-value
returns-clause-value c =
    let x_fits = c.ranges.x in
    let y_fits = c.ranges.y in
    let t = c.oriented_triangle-t.result in
    let weights = c.weights_at-weights.ensures in
    mixed_is t.a t.b t.c c.args.which c.args.x c.args.y _ _ _ _ _ _ _ (simp to_z-of_z at weights.one)
    (simp to_z-of_z at weights.two) (simp to_z-of_z at weights.three) weights.sum
    c.attribute.ensures c.attribute-2.ensures c.attribute-3.ensures c.mixed.ensures
    ∙ ap (λ w. mixed_of w c.args.which c.args.x c.args.y) c.oriented_triangle-t.ensures.same
