use Rattle.std.proofs.Common.{◌∙◌, ◌+◌, ℤ, pos, ◌+ℤ◌, IsTrue, sym, ap, arith}
use Rattle.std.proofs.lemmas.Int.{ints, clamps}
use Rattle.edge_walk.specs.Attribute.{mixed_of}
use Rattle.edge_walk.specs.AttributeSetup.{IsAttributeSetup}
use Rattle.edge_walk.specs.Extent.{bounding_box}
use Rattle.edge_walk.specs.Triangle.{Corners, corners, is_inside, is_within}
use Rattle.edge_walk.proofs.Corner.{inside_is}
use Rattle.edge_walk.proofs.InBox.{within-in_box}
use Rattle.edge_walk.proofs.AreaLemmas.{area_held}
use Rattle.edge_walk.proofs.PlaneLemmas.{PlaneAt, plane_at}
use Rattle.edge_walk.proofs.attribute_setup.AttributeSetup.plane.Goals as goal
use Rattle.edge_walk.proofs.attribute_setup.AttributeSetup.plane.Goals.{After-of}

module _ (c : After-of) (tri : Corners) (is : IsAttributeSetup tri c.args.self.now) (x y : ℤ)
    (inside : IsTrue (is_inside tri x y)) where
  here : IsTrue (is_within (corners c.args.self.now.t.a c.args.self.now.t.b c.args.self.now.t.c) x y)
  here = sym (inside_is tri _ _ _ is.oriented_triangle x y) ∙ inside

  both : PlaneAt c.args.self.now.t.a c.args.self.now.t.b c.args.self.now.t.c c.args.which c.of.result x y
  unfolding bounding_box
  both =
      let t = c.args.self.now.t in
      let held = area_held _ _ _ _ _ is.divisor is.oriented_triangle t.oriented_triangle in
      let box = within-in_box t.a t.b t.c x y t.oriented_triangle here in
      let above = c.args.self.now.above in
      plane_at t.a t.b t.c c.args.which c.args.self.now.divisor c.of.result held c.of.ensures
      x y here (omega (arith, ints, above.first.across)) (omega (arith, ints, above.first.down))
      (omega (arith, ints, clamps, box.0.0, above.first.across, above.second.across, above.third.across))
      (omega (arith, ints, clamps, box.1.0, above.first.down, above.second.down, above.third.down))

pub returns : goal.returns
returns c tri is = record {
  own = λ x y inside. (both (goal.at.returns c).After-of tri is x y inside).own
      ∙ ap (λ w. mixed_of w c.args.which x y) is.oriented_triangle;
  lines = λ x y inside k j lt there.
      (both (goal.at.returns c).After-of tri is x y inside).line k j lt
      (sym (inside_is tri _ _ _ is.oriented_triangle (x +ℤ pos (k + j)) y) ∙ there)
      ∙ ap (λ w. mixed_of w c.args.which (x +ℤ pos (k + j)) y) is.oriented_triangle;
}
