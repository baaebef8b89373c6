use Rattle.std.proofs.Common.{arith}
use Rattle.std.proofs.lemmas.Int.{to_z-of_z, ints}
use Rattle.edge_walk.proofs.AreaLemmas.{area_small}
use Rattle.edge_walk.proofs.Corner.{sum_of_edges}
use Rattle.edge_walk.proofs.MixLemmas.{AreEdges, edges_of}
use Rattle.edge_walk.proofs.oriented.Oriented.weights_at.Goals as goal
use Rattle.edge_walk.proofs.oriented.Oriented.weights_at.Goals.{Start}

edges : (c : Start) → AreEdges c.args.self.now.a c.args.self.now.b c.args.self.now.c c.args.x c.args.y
edges c = edges_of c.args.self.now.a c.args.self.now.b c.args.self.now.c c.args.x c.args.y
    c.args.self.now.oriented_triangle.small
    c.requires

pub weight-requires-clause-low : goal.weight-requires-clause-low
weight-requires-clause-low c =
    let x_fits = c.ranges.x in
    let y_fits = c.ranges.y in
    simp to_z-of_z (edges (goal.at.weight-requires-clause-low c).Start).first.low

pub weight-requires-clause-high : goal.weight-requires-clause-high
weight-requires-clause-high c =
    let x_fits = c.ranges.x in
    let y_fits = c.ranges.y in
    simp to_z-of_z (edges (goal.at.weight-requires-clause-high c).Start).first.high

pub weight-requires-2-clause-low : goal.weight-requires-2-clause-low
weight-requires-2-clause-low c =
    let x_fits = c.ranges.x in
    let y_fits = c.ranges.y in
    simp to_z-of_z (edges (goal.at.weight-requires-2-clause-low c).Start).second.low

pub weight-requires-2-clause-high : goal.weight-requires-2-clause-high
weight-requires-2-clause-high c =
    let x_fits = c.ranges.x in
    let y_fits = c.ranges.y in
    simp to_z-of_z (edges (goal.at.weight-requires-2-clause-high c).Start).second.high

pub weight-requires-3-clause-low : goal.weight-requires-3-clause-low
weight-requires-3-clause-low c =
    let x_fits = c.ranges.x in
    let y_fits = c.ranges.y in
    simp to_z-of_z (edges (goal.at.weight-requires-3-clause-low c).Start).third.low

pub weight-requires-3-clause-high : goal.weight-requires-3-clause-high
weight-requires-3-clause-high c =
    let x_fits = c.ranges.x in
    let y_fits = c.ranges.y in
    simp to_z-of_z (edges (goal.at.weight-requires-3-clause-high c).Start).third.high

pub returns : goal.returns
returns c =
    let x_fits = c.ranges.x in
    let y_fits = c.ranges.y in
    let t = c.args.self.now in
    let one = simp to_z-of_z at c.weight.ensures in
    let two = simp to_z-of_z at c.weight-2.ensures in
    let three = simp to_z-of_z at c.weight-3.ensures in
    let sum = sum_of_edges t.a t.b t.c c.args.x c.args.y in
    let small = area_small t.a t.b t.c t.oriented_triangle.small.one t.oriented_triangle.small.three in
    record {
      one = one;
      two = two;
      three = three;
      sum = omega (arith, ints, one, two, three, sum);
      bound = omega (arith, ints, one, two, three, sum, small);
    }
