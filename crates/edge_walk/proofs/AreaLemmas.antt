-- The area of a triangle, and the divisor of the sums of its attributes.
use Rattle.std.proofs.Common.{◌≤◌, ◌≡◌, ℤ, pos, ◌-ℤ◌, ◌*ℤ◌, ◌≤ℤ◌, int_lt, true, false, cond}
use Rattle.std.proofs.Common.{unsigned_abs, refl, sym, ap, ◌∙◌, arith}
use Rattle.std.proofs.lemmas.Int.{ints, unsigned_abs-mul}
use Rattle.std.proofs.lemmas.Nat.{mul-le}
use Rattle.px_num.specs.declared.shape.Vertex.{Vertex}
use Rattle.edge_walk.specs.declared.divisor.Divisor.{Divisor}
use Rattle.edge_walk.specs.Divisor.{IsDivisor}
use Rattle.edge_walk.specs.Held.{divisor_for}
use Rattle.edge_walk.specs.Triangle.{Corners, corners, oriented, doubled_area, IsNear, IsUpright}
use Rattle.edge_walk.proofs.Corner.{area_turned}
use Rattle.edge_walk.proofs.WeightLemmas.{edge_is}

product_bound : (a b : ℤ) → unsigned_abs a ≤ 1023 → unsigned_abs b ≤ 511 → unsigned_abs (a *ℤ b) ≤ 522753
product_bound a b g h = rw unsigned_abs-mul (mul-le (unsigned_abs a) (unsigned_abs b) 1023 511 g h)

product_bound_turned : (a b : ℤ) → unsigned_abs a ≤ 511 → unsigned_abs b ≤ 1023 → unsigned_abs (a *ℤ b) ≤ 522753
product_bound_turned a b g h = rw unsigned_abs-mul (mul-le (unsigned_abs a) (unsigned_abs b) 511 1023 g h)

pub area_small : (a b c : Vertex) → IsNear a b → IsNear c a → unsigned_abs (doubled_area (corners a b c)) ≤ 1045506
area_small a b c ab ca =
    let e = edge_is a b c.x c.y in
    let one = product_bound (b.x -ℤ a.x) (c.y -ℤ a.y) (omega (arith, ints, ab.across)) (omega (arith, ints, ca.down)) in
    let two = product_bound_turned (b.y -ℤ a.y) (c.x -ℤ a.x) (omega (arith, ints, ab.down))
    (omega (arith, ints, ca.across)) in
    omega (arith, ints, e, one, two)

area_bound : (a b c : Vertex) → IsNear a b → IsNear c a → doubled_area (corners a b c) ≤ℤ pos 1045506
area_bound a b c ab ca = let small = area_small a b c ab ca in omega (arith, ints)

area_oriented : (t : Corners) → unsigned_abs (doubled_area (oriented t)) ≡ unsigned_abs (doubled_area t)
unfolding oriented
area_oriented t =
    let e = area_turned t.first t.second t.third in
    elim (int_lt (doubled_area t) (pos 0)) as
    (λ turned. unsigned_abs (doubled_area (cond turned (corners t.first t.third t.second) t))
    ≡ unsigned_abs (doubled_area t))
    [ true ↦ omega (arith, ints) | false ↦ refl ]

-- a divisor is made from the doubled area of the triangle
pub record IsAreaOf (d : Divisor) (t : Corners) : Type 0 where
  pub divisor : IsDivisor d
  pub is : pos d.area ≡ doubled_area t

pub area_held : (v : Corners) (d : Divisor) (a b c : Vertex) → d ≡ divisor_for v → corners a b c ≡ oriented v
    → IsUpright (corners a b c) → IsAreaOf d (corners a b c)
area_held v d a b c is same_as oriented_triangle =
    let whole : d.area ≡ unsigned_abs (doubled_area (corners a b c)) = ap (λ e. e.area) is ∙ sym (area_oriented v)
    ∙ ap (λ w. unsigned_abs (doubled_area w)) (sym same_as) in
    let bound = area_bound a b c oriented_triangle.small.one oriented_triangle.small.three in record {
      divisor = record {
        some = omega (arith, ints, whole, oriented_triangle.area);
        most = omega (arith, ints, whole, oriented_triangle.area, bound);
        reciprocal = rw is refl;
      };
      is = omega (arith, ints, whole, oriented_triangle.area);
    }
