-- The three corners of a triangle in both orders.
use Rattle.std.proofs.Common.{◌≡◌, ℤ, pos, ◌+ℤ◌, ◌-ℤ◌, ◌*ℤ◌, ◌<ℤ◌, arith, Bool, true, false, ◌&&◌}
use Rattle.std.proofs.Common.{refl, sym, ap, ◌∙◌, int_lt}
use Rattle.std.proofs.lemmas.Int.{ints}
use Rattle.px_num.specs.declared.shape.Vertex.{Vertex}
use Rattle.px_num.proofs.Ring.{Poly, at, sub, mul, add, same}
use Rattle.edge_walk.specs.Triangle.{Corners, corners, edge, doubled_area, oriented, is_on_side, is_within, is_inside}
use Rattle.edge_walk.specs.Triangle.{IsNear, IsSmall, IsDrawn, IsUpright}

abbrev poly_edge : Vertex → Vertex → ℤ → ℤ → Poly
poly_edge p q x y = sub (mul (sub (at q.x) (at p.x)) (sub (at y) (at p.y)))
    (mul (sub (at q.y) (at p.y)) (sub (at x) (at p.x)))

pub area_turned : (a b c : Vertex) → doubled_area (corners a c b) ≡ pos 0 -ℤ doubled_area (corners a b c)
unfolding edge
area_turned a b c = same (poly_edge a c b.x b.y) (sub (at (pos 0)) (poly_edge a b c.x c.y)) (omega arith)

pub IsNear-sym : (p q : Vertex) → IsNear p q → IsNear q p
IsNear-sym p q h = record { across = omega (arith, ints, h.across); down = omega (arith, ints, h.down) }

pub sum_of_edges : (a b c : Vertex) (x y : ℤ) → edge a b x y +ℤ edge b c x y +ℤ edge c a x y
    ≡ doubled_area (corners a b c)
unfolding edge
sum_of_edges a b c x y = same (add (add (poly_edge a b x y) (poly_edge b c x y)) (poly_edge c a x y))
    (poly_edge a b c.x c.y) (omega arith)

pub IsSmall-turned : (a b c : Vertex) → IsSmall (corners a b c) → IsSmall (corners a c b)
IsSmall-turned a b c h = record {
  one = IsNear-sym c a h.three;
  two = IsNear-sym b c h.two;
  three = IsNear-sym a b
      h.one;
}

pub IsUpright-turned : (a b c : Vertex) → IsSmall (corners a b c) → doubled_area (corners a b c) <ℤ pos 0
    → IsUpright (corners a c b)
IsUpright-turned a b c h less = record {
  small = IsSmall-turned a b c h;
  area = let e = area_turned a b c in
      omega (arith, ints);
}

area_next : (a b c : Vertex) → doubled_area (corners b c a) ≡ doubled_area (corners a b c)
unfolding edge
area_next a b c = same (poly_edge b c a.x a.y) (poly_edge a b c.x c.y) (omega arith)

-- the same triangle, starting at its second vertex
pub upright_next : (a b c : Vertex) → IsUpright (corners a b c) → IsUpright (corners b c a)
upright_next a b c h = record {
  small = record { one = h.small.two; two = h.small.three; three = h.small.one };
  area = let e = area_next a b c in
      omega (arith, ints, h.area);
}

-- the three vertices are not all in one row
pub not_level : (a b c : Vertex) → IsUpright (corners a b c) → a.y ≡ b.y → b.y ≡ c.y → ⊥
unfolding edge
not_level a b c h e f =
    let third : (c.y -ℤ a.y) ≡ pos 0 = omega (arith, ints, e, f) in
    let second : (b.y -ℤ a.y) ≡ pos 0 = omega (arith, ints, e) in
    let none : doubled_area (corners a b c)
    ≡ pos 0 = ap (λ d. (b.x -ℤ a.x) *ℤ d -ℤ (b.y -ℤ a.y) *ℤ (c.x -ℤ a.x)) third
    ∙ ap (λ d. (b.x -ℤ a.x) *ℤ pos 0 -ℤ d *ℤ (c.x -ℤ a.x)) second
    ∙ same (sub (mul (sub (at b.x) (at a.x)) (at (pos 0))) (mul (at (pos 0)) (sub (at c.x) (at a.x)))) (at (pos 0))
    (omega arith) in
    omega (arith, ints, none, h.area)

module _ (t : Corners) where
  pub oriented_turned : true ≡ int_lt (doubled_area t) (pos 0) → corners t.first t.third t.second ≡ oriented t
  unfolding oriented
  oriented_turned e = rw (← e) refl

  pub oriented_kept : false ≡ int_lt (doubled_area t) (pos 0) → t ≡ oriented t
  unfolding oriented
  oriented_kept e = rw (← e) refl

pub upright_turned : (t : Corners) → IsDrawn t → true ≡ int_lt (doubled_area t) (pos 0)
    → IsUpright (corners t.first t.third t.second)
upright_turned t h e = IsUpright-turned t.first t.second t.third h.small (omega (arith, ints))

pub upright_kept : (t : Corners) → IsDrawn t → false ≡ int_lt (doubled_area t) (pos 0) → IsUpright t
upright_kept t h e = record { small = h.small; area = omega (arith, ints, h.area) }

-- the cells inside of an oriented triangle that is given by its vertices
pub inside_is : (t : Corners) (a b c : Vertex) → corners a b c ≡ oriented t → (x y : ℤ) → is_inside t x y
    ≡ is_within (corners a b c) x y
inside_is t a b c e x y = ap (λ w. is_within w x y) (sym e)

pub three_sides : (v : Corners) (a b c : Vertex) (x y : ℤ) (one two three all : Bool) → corners a b c ≡ oriented v
    → one ≡ is_on_side a b x y → two ≡ is_on_side b c x y → three ≡ is_on_side c a x y → all ≡ (one && two && three)
    → all ≡ is_inside v x y
unfolding is_within
three_sides v a b c x y one two three all same_as first second third all_is =
    all_is ∙ (rw (first, second, third) (ap (λ w. is_within w x y) same_as))
