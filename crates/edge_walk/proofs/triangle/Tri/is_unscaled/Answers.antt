use Rattle.std.proofs.Common.{◌≡◌, ◌∙◌, pos, SFits, w64, of_z, to_z, refl, sym, ap, arith, rules}
use Rattle.std.proofs.lemmas.Bool.Decides.{nat_tests}
use Rattle.std.proofs.lemmas.Int.{ints, to_z-of_z, to_z_pos}
use Rattle.edge_walk.specs.Held.{divisor_for, size_of}
use Rattle.edge_walk.specs.Triangle.{corners, doubled_area}
use Rattle.edge_walk.proofs.AreaLemmas.{area_held, area_small}
use Rattle.edge_walk.proofs.ScaleLemmas.{unscaled_is}
use Rattle.edge_walk.proofs.triangle.Tri.is_unscaled.Goals as goal

pub returns-then-across-self : goal.returns-then-across-self
returns-then-across-self c stays =
    let t = c.oriented_triangle-t.result in
    let v = c.args.self.now in
    let held = area_held v (divisor_for v) t.a t.b t.c refl c.oriented_triangle-t.ensures.same t.oriented_triangle in
    let area : pos c.self.inside.area ≡ doubled_area (corners t.a t.b t.c) =
    ap pos (c.self.invariant.area_is ∙ ap size_of c.self.view_is) ∙ held.is in
    let across_fits : SFits w64 c.step_across-across.result = search rules in
    let down_fits : SFits w64 c.step_across-down.result = search rules in
    let small = area_small t.a t.b t.c t.oriented_triangle.small.one t.oriented_triangle.small.three in
    let rises : c.step_across-across.result ≡ pos c.self.inside.area =
    sym (to_z-of_z w64 c.step_across-across.result across_fits) ∙ ap (to_z w64) c.if-across-self.true
    ∙ to_z_pos w64 c.self.inside.area (omega (arith, ints, area, small)) in
    let nothing : of_z w64 c.step_across-down.result ≡ 0 = grind (arith, nat_tests, stays) in
    let stays : c.step_across-down.result ≡ pos 0 =
    sym (to_z-of_z w64 c.step_across-down.result down_fits) ∙ ap (to_z w64) nothing in
    unscaled_is v t.a t.b t.c c.self.inside.area _ _ c.oriented_triangle-t.ensures.same t.oriented_triangle
    c.step_across-across.ensures.bytes c.step_across-down.ensures.bytes area c.step_across-across.ensures.step
    c.step_across-down.ensures.step rises stays
