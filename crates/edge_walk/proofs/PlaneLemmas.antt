-- An attribute over a triangle, as a plane.
use Rattle.std.proofs.Common.{ℕ, ◌+◌, ◌*◌, ◌/◌, ◌^◌, ◌≤◌, ◌<◌, ◌≡◌, ℤ, pos, ◌+ℤ◌, IsTrue}
use Rattle.std.proofs.Common.{unsigned_abs, refl, ◌∙◌, arith}
use Rattle.std.proofs.Math.Nat.{mul-le-mul_left}
use Rattle.std.proofs.lemmas.Int.{ints}
use Rattle.px_num.specs.declared.shape.Vertex.{Vertex}
use Rattle.edge_walk.specs.declared.divisor.Divisor.{Divisor}
use Rattle.edge_walk.specs.declared.plane.Plane.{Plane}
use Rattle.edge_walk.specs.Attribute.{attribute, step_of, row_step_of, mixed_of}
use Rattle.edge_walk.specs.Line.{line_value}
use Rattle.edge_walk.specs.Plane.{from_least, line_at, number_at, IsPlaneOf}
use Rattle.edge_walk.specs.Triangle.{corners, doubled_area, is_within}
use Rattle.edge_walk.proofs.AreaLemmas.{IsAreaOf}
use Rattle.edge_walk.proofs.DivisorLemmas.{reciprocal_bound, reciprocal_exact, square_bound}
use Rattle.edge_walk.proofs.LineLemmas.{line_is}
use Rattle.edge_walk.proofs.NumberLemmas.{number_is, scaled_is}
use Rattle.edge_walk.proofs.ShareLemmas.{sum_here, IsCounted}
use Rattle.edge_walk.proofs.SumLemmas.{lane_is, sum_at, sum_small}

-- a plane has the attribute's value at (x, y), and its line from there has the values of the row
pub record PlaneAt (a b c : Vertex) (which : ℕ) (plane : Plane) (x y : ℤ) : Type 0 where
  pub own : number_at plane x y / 2 ^ 56 ≡ mixed_of (corners a b c) which x y
  pub line : (k j : ℕ) → j < 16 → IsTrue (is_within (corners a b c) (x +ℤ pos (k + j)) y)
      → line_value (line_at plane x y) k j ≡ mixed_of (corners a b c) which (x +ℤ pos (k + j)) y

module _ (a b c : Vertex) (which : ℕ) (d : Divisor) (plane : Plane) (held : IsAreaOf d (corners a b c))
    (of : IsPlaneOf (corners a b c) which d plane) (x y : ℤ) (inside : IsTrue (is_within (corners a b c) x y))
    (xa_is : IsCounted a.x) (ya_is : IsCounted a.y) (x_is : IsCounted x) (y_is : IsCounted y) where
  start : ℕ
  start = sum_at a b c which x y

  some : 0 < d.area
  some = held.divisor.some

  r_is : d.reciprocal ≡ 2 ^ 56 / d.area + 1
  r_is = held.divisor.reciprocal

  start_small : start ≤ 255 * d.area
  unfolding start
  start_small = sum_small a b c which d.area x y inside of.bytes held.is

  first_is : number_at plane x y ≡ start * d.reciprocal
  unfolding number_at start
  first_is =
      let low = rw (← r_is) at (reciprocal_bound start d.area (2 ^ 56) some start_small) in
      let share = mul-le-mul_left d.area of.bytes.first in
      let high = rw (← r_is) at
      (reciprocal_bound (d.area * attribute which a) d.area (2 ^ 56) some (omega (arith, share))) in
      number_is plane.base plane.across plane.down (d.area * attribute which a) start d.reciprocal (from_least a.x)
      (from_least a.y) (from_least x) (from_least y) (step_of (corners a b c) which) (row_step_of (corners a b c) which)
      (omega (arith, high, held.divisor.most)) (omega (arith, low, held.divisor.most)) of.first
      (rw of.rightward (scaled_is (step_of (corners a b c) which) d.reciprocal))
      (rw of.downward (scaled_is (row_step_of (corners a b c) which) d.reciprocal))
      (sum_here a b c which d.area x y inside held.is xa_is ya_is x_is y_is)

  plane_own : number_at plane x y / 2 ^ 56 ≡ mixed_of (corners a b c) which x y
  unfolding start mixed_of
  plane_own =
      let size : unsigned_abs (doubled_area (corners a b c)) ≡ d.area = omega (arith, ints, held.is) in
      rw (first_is, r_is, size)
      (reciprocal_exact start d.area (2 ^ 56) some start_small (square_bound d.area held.divisor.most))

  plane_line : (k j : ℕ) → j < 16 → IsTrue (is_within (corners a b c) (x +ℤ pos (k + j)) y)
      → line_value (line_at plane x y) k j ≡ mixed_of (corners a b c) which (x +ℤ pos (k + j)) y
  unfolding start line_value
  plane_line k j lt there =
      let step = step_of (corners a b c) which in
      let lane = lane_is a b c which d.area x y (k + j) step inside there of.bytes held.is refl in
      rw (first_is, of.rightward)
      (line_is start k j d.area d.reciprocal step lt some held.divisor.most r_is lane.low lane.high) ∙ lane.value

  pub plane_at : PlaneAt a b c which plane x y
  plane_at = record { own = plane_own; line = plane_line }
