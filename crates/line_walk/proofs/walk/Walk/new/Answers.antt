use Rattle.std.proofs.Common.{◌≤◌, w32, SFits, rules, arith}
use Rattle.std.proofs.lemmas.Int.{ints, to_z-of_z}
use Rattle.line_walk.specs.Walk.{IsSlope}
use Rattle.line_walk.proofs.SlopeLemmas.{one_cut, tones_cut}
use Rattle.line_walk.proofs.walk.Walk.new.Goals as goal

pub first_slope-requires-clause-steps : goal.first_slope-requires-clause-steps
first_slope-requires-clause-steps c =
    let across = c.requires.near.across in
    let down = c.requires.near.down in
    let most : c.args.steps ≤ 1023 = omega (arith, ints, c.requires.steps, across, down) in
    omega (arith, most, c.max-cuts.ensures)

pub first_tones-requires-clause-steps : goal.first_tones-requires-clause-steps
first_tones-requires-clause-steps c =
    let across = c.requires.near.across in
    let down = c.requires.near.down in
    let most : c.args.steps ≤ 1023 = omega (arith, ints, c.requires.steps, across, down) in
    omega (arith, most, c.max-cuts.ensures)

pub invariant_of-result : goal.invariant_of-result
invariant_of-result c =
    let ax : SFits w32 c.args.a.x = search rules in
    let bx : SFits w32 c.args.b.x = search rules in
    let ay : SFits w32 c.args.a.y = search rules in
    let by_ : SFits w32 c.args.b.y = search rules in
    let across : IsSlope c.args.a.x c.args.b.x c.max-cuts.result 0 c.first_slope.result = simp to_z-of_z at
    c.first_slope.ensures in
    let down : IsSlope c.args.a.y c.args.b.y c.max-cuts.result 0 c.first_slope-2.result = simp to_z-of_z at
    c.first_slope-2.ensures in
    record {
      near = c.requires.near;
      count = c.requires.steps;
      within = omega arith;
      across = one_cut c.args.a.x c.args.b.x c.args.steps 0 c.max-cuts.result c.first_slope.result c.max-cuts.ensures
          across;
      down = one_cut c.args.a.y c.args.b.y c.args.steps 0 c.max-cuts.result c.first_slope-2.result c.max-cuts.ensures
          down;
      shaded = tones_cut c.args.a.color c.args.b.color c.args.steps 0 c.max-cuts.result c.first_tones.result
          c.max-cuts.ensures c.first_tones.ensures;
    }
