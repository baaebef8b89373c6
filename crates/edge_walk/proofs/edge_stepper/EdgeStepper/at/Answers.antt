use Rattle.std.proofs.Common.{◌≡◌, SFits, w32, w64, arith, rules, refl, ◌+ℤ◌, ◌-ℤ◌, ◌*ℤ◌}
use Rattle.std.proofs.lemmas.Int.{to_z-of_z, ints}
use Rattle.edge_walk.specs.Walk.{in_parts, start_value}
use Rattle.edge_walk.proofs.SideLemmas.{IsPlaced, far_small, in_reach, placed, value_small}
use Rattle.edge_walk.proofs.edge_stepper.EdgeStepper.at.Goals as goal
use Rattle.edge_walk.proofs.edge_stepper.EdgeStepper.at.Goals.{After-in_parts}

pub raised-far-requires-clause-value : goal.raised-far-requires-clause-value
raised-far-requires-clause-value c =
    let p = c.args.p.now in
    let q = c.args.q.now in
    let y_fits = c.ranges.y in
    let left : SFits w32 p.x = search rules in
    let right : SFits w32 q.x = search rules in
    let top : SFits w32 p.y = search rules in
    let across_fits : SFits w64 c.difference-across.result = search rules in
    let down_fits : SFits w64 c.difference.result = search rules in
    let value_fits : SFits w64 c.product-value.result = search rules in
    let across : c.difference-across.result ≡ (q.x -ℤ p.x) = simp to_z-of_z at c.difference-across.ensures.value in
    let down : c.difference.result ≡ (c.args.y -ℤ p.y) = simp to_z-of_z at c.difference.ensures.value in
    let value : c.product-value.result
    ≡ (c.difference-across.result *ℤ c.difference.result) = simp to_z-of_z at c.product-value.ensures.value in
    let is : c.product-value.result ≡ start_value p q c.args.y = rw (across, down) at value in
    simp to_z-of_z (rw is (value_small p q c.args.y c.requires.near c.requires.reach))

-- the edge's column
held : (c : After-in_parts)
    → IsPlaced c.in_parts.result c.raised-far.result
    (in_parts c.args.p.now.x +ℤ
    (start_value c.args.p.now c.args.q.now c.args.y *ℤ c.args.slope.now.scale +ℤ c.args.slope.now.slack))
held c =
    let p = c.args.p.now in
    let q = c.args.q.now in
    let slope = c.args.slope.now in
    let y_fits = c.ranges.y in
    let left : SFits w32 p.x = search rules in
    let right : SFits w32 q.x = search rules in
    let top : SFits w32 p.y = search rules in
    let across_fits : SFits w64 c.difference-across.result = search rules in
    let down_fits : SFits w64 c.difference.result = search rules in
    let value_fits : SFits w64 c.product-value.result = search rules in
    let scale_fits : SFits w64 slope.scale = search rules in
    let slack_fits : SFits w64 slope.slack = search rules in
    let across : c.difference-across.result ≡ (q.x -ℤ p.x) = simp to_z-of_z at c.difference-across.ensures.value in
    let down : c.difference.result ≡ (c.args.y -ℤ p.y) = simp to_z-of_z at c.difference.ensures.value in
    let value : c.product-value.result
    ≡ (c.difference-across.result *ℤ c.difference.result) = simp to_z-of_z at c.product-value.ensures.value in
    let is : c.product-value.result ≡ start_value p q c.args.y = rw (across, down) at value in
    let small = value_small p q c.args.y c.requires.near c.requires.reach in
    let far = far_small (start_value p q c.args.y) slope.scale (omega (arith, small)) c.requires.slope.scale in
    let reached = in_reach p.x (start_value p q c.args.y *ℤ slope.scale) slope.slack left
    far c.requires.slope.slack in
    let start_is = simp to_z-of_z at c.in_parts.ensures in
    let far_is = simp to_z-of_z at c.raised-far.ensures in
    placed c.in_parts.result c.raised-far.result _ (start_value p q c.args.y *ℤ slope.scale) slope.slack start_is
    (rw is at far_is) reached.0 reached.1

pub overflow_add-result : goal.overflow_add-result
overflow_add-result c = let h = held (goal.at.overflow_add-result c).After-in_parts in omega (arith, h.fits)

pub overflow_sub-result : goal.overflow_sub-result
overflow_sub-result c = let h = held (goal.at.overflow_sub-result c).After-in_parts in omega (arith, h.enough)

pub returns : goal.returns
returns c =
    let slope = c.args.slope.now in
    let start_fits : SFits w32 c.args.p.now.x = search rules in
    let end_fits : SFits w32 c.args.q.now.x = search rules in
    let across_fits : SFits w64 c.difference-across.result = search rules in
    let scale_fits : SFits w64 slope.scale = search rules in
    let step_is = simp to_z-of_z at c.raised-step.ensures in
    let across_is = simp to_z-of_z at c.difference-across.ensures.value in
    let step = rw across_is at step_is in
    record {
      slope = slope;
      is_slope = c.requires.slope;
      bound = refl;
      start = start_fits;
      at = (held (goal.at.returns c).After-in_parts).value;
      raised = c.raised-step.result;
      by = refl;
      step = omega (arith, ints, step);
    }
