use Rattle.std.proofs.Common.{◌≡◌, pos, ◌-ℤ◌, SFits, w32, arith, rules, subst, ◌∙◌, ap}
use Rattle.std.proofs.lemmas.Int.{to_z-of_z, ints}
use Rattle.std.specs.Int.{int_max, int_min}
use Rattle.edge_walk.specs.Extent.{bounding_box}
use Rattle.edge_walk.specs.Triangle.{corners, oriented, IsSmall, IsTurn}
use Rattle.edge_walk.specs.Walk.{in_parts}
use Rattle.edge_walk.proofs.TurnLemmas.{AreReached, reached, reached_around}
use Rattle.edge_walk.proofs.triangle.Tri.rows.Goals as goal
use Rattle.edge_walk.proofs.triangle.Tri.rows.Goals.{After-bounds-own}

small : (c : After-bounds-own) → IsSmall (oriented c.args.self.now)
small c = subst (λ w. IsSmall w) c.oriented_triangle.ensures.same c.oriented_triangle.result.oriented_triangle.small

turn : (c : After-bounds-own) → IsTurn (oriented c.args.self.now)
    (corners c.rotated_to_top-t.result.a c.rotated_to_top-t.result.b c.rotated_to_top-t.result.c)
turn c = subst (λ w. IsTurn w
    (corners c.rotated_to_top-t.result.a c.rotated_to_top-t.result.b c.rotated_to_top-t.result.c))
    c.oriented_triangle.ensures.same c.rotated_to_top-t.ensures.turn

near : (c : After-bounds-own)
    → AreReached (corners c.rotated_to_top-t.result.a c.rotated_to_top-t.result.b c.rotated_to_top-t.result.c)
    c.args.clip.now.y1
near c =
    let clip = c.args.clip.now in
    reached_around _ _ clip.y1 (turn c) (reached c.args.self.now clip clip.y1 (small c) c.requires (omega (arith, ints))
    (omega (arith, ints, c.requires.some)))

pub at-requires-clause-reach : goal.at-requires-clause-reach
at-requires-clause-reach c =
    let y_fits : SFits w32 c.args.clip.now.y1 = search rules in
    simp to_z-of_z (near (goal.at.at-requires-clause-reach c).After-bounds-own).first

pub at-requires-2-clause-reach : goal.at-requires-2-clause-reach
at-requires-2-clause-reach c =
    let y_fits : SFits w32 c.args.clip.now.y1 = search rules in
    simp to_z-of_z (near (goal.at.at-requires-2-clause-reach c).After-bounds-own).second

pub at-requires-3-clause-reach : goal.at-requires-3-clause-reach
at-requires-3-clause-reach c =
    let y_fits : SFits w32 c.args.clip.now.y1 = search rules in
    simp to_z-of_z (near (goal.at.at-requires-3-clause-reach c).After-bounds-own).third

pub returns : goal.returns
returns c =
    let clip = c.args.clip.now in
    let t = c.args.self.now in
    let own = c.bounds-own.result in
    let top = c.rotated_to_top-t.result in
    let y_fits : SFits w32 clip.y1 = search rules in
    let left_fits : SFits w32 own.x1 = search rules in
    let right_fits : SFits w32 own.x2 = search rules in
    let left_is : own.x1 ≡ (bounding_box t).x1 = ap (λ b. b.x1) c.bounds-own.ensures.value in
    let right_is : own.x2 ≡ (bounding_box t).x2 = ap (λ b. b.x2) c.bounds-own.ensures.value in
    record {
      small = small (goal.at.returns c).After-bounds-own;
      around = corners top.a top.b top.c;
      turn = turn (goal.at.returns c).After-bounds-own;
      box = c.requires;
      above = omega (arith, ints);
      below = omega (arith, ints, c.requires.some);
      drawn = c.oriented_triangle.ensures.drawn;
      left_fits = rw left_is at left_fits;
      right_fits = rw right_is at right_fits;
      low = c.of.ensures.low ∙ ap (λ x. in_parts (int_max clip.x1 x) -ℤ pos 1) left_is;
      high = c.of.ensures.high ∙ ap (λ x. in_parts (int_min clip.x2 x)) right_is;
      first = simp to_z-of_z at c.at.ensures;
      second = simp to_z-of_z at c.at-2.ensures;
      third = simp to_z-of_z at c.at-3.ensures;
    }
