use Rattle.std.proofs.Common.{◌≡◌, ◌∙◌, ◌+◌, inl, inr, pos, ◌+ℤ◌, IsTrue, subst, arith}
use Rattle.std.proofs.lemmas.Bool.{cases_lt}
use Rattle.std.proofs.lemmas.Int.{ints, to_z-of_z}
use Rattle.edge_walk.specs.Triangle.{is_inside}
use Rattle.edge_walk.proofs.triangle.Tri.attr_lanes.Goals as goal

pub returns-clause-value : goal.returns-clause-value
returns-clause-value c j lt =
    let t = c.args.self.now in
    let x_fits = c.ranges.x in
    let y_fits = c.ranges.y in
    let first : (c.args.x +ℤ pos 0) ≡ c.args.x = omega (arith, ints) in
    let here = subst (λ x. IsTrue (is_inside t x c.args.y)) first (c.requires.inside 0 (omega arith)) in
    let few = c.requires.lanes in
    let setup = c.attribute_setup.ensures in
    let line = simp to_z-of_z at (c.row_line.ensures t c.args.which (c.plane-plane.ensures t setup)) in
    let none_more : 0 + j ≡ j = omega arith in
    let there = rw none_more at (line here 0 j (omega arith)) in
    c.keep_first.ensures.value j lt ∙ c.lanes.ensures.value j (omega arith) ∙ there (c.requires.inside j lt)

pub returns-clause-bytes : goal.returns-clause-bytes
returns-clause-bytes c j lane = elim (cases_lt j c.args.n) [
  | inl kept ↦ omega (arith, c.keep_first.ensures.value j kept, c.lanes.ensures.bytes j lane)
  | inr left ↦ omega (arith, c.keep_first.ensures.rest j left)
]
