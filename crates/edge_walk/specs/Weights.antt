-- The edge values of a cell, which weight its attributes.
use Rattle.std.specs.Prelude.{◌+◌, ◌≤◌, ◌≡◌, ℤ, pos}
use Rattle.edge_walk.specs.declared.weights.Weights.{Weights}
use Rattle.edge_walk.specs.Triangle.{Corners, doubled_area, edge}

-- each is the value of the edge opposite a vertex, and their sum is the doubled area
pub record AreWeightsOf (t : Corners) (x y : ℤ) (w : Weights) : Type 0 where
  pub one : pos w.first ≡ edge t.second t.third x y
  pub two : pos w.second ≡ edge t.third t.first x y
  pub three : pos w.third ≡ edge t.first t.second x y
  pub sum : pos (w.first + w.second + w.third) ≡ doubled_area t
  pub bound : w.first + w.second + w.third ≤ 1045506
