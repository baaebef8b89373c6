-- Vertices with equal colours.
use Rattle.std.proofs.Common.{ℕ, ◌+◌, ◌*◌, ◌/◌, ◌%◌, ◌^◌, ◌<◌, ◌≡◌, ℤ, IsTrue, unsigned_abs, sym, ap, ◌∙◌, arith}
use Rattle.std.proofs.lemmas.Int.{ints}
use Rattle.std.proofs.lemmas.Nat.{div-mul-add}
use Rattle.px_num.specs.declared.shape.Vertex.{Vertex}
use Rattle.edge_walk.specs.Attribute.{attribute, mixed_of, weight, HasColor}
use Rattle.edge_walk.specs.Triangle.{Corners, corners, doubled_area, oriented, is_within, IsUpright}
use Rattle.edge_walk.proofs.WeightLemmas.{weights_of}

same_over : (m n k p s : ℕ) → s ≡ m + n + k → 0 < s → (m * p + n * p + k * p) / s ≡ p
same_over m n k p s is some =
    let e : m * p + n * p + k * p ≡ p * s + 0 = omega (arith, ap (λ z. p * z) is) in
    ap (λ z. z / s) e ∙ div-mul-add p s 0 some

same_mixed : (a b c : Vertex) (which p : ℕ) (x y : ℤ) → IsUpright (corners a b c)
    → IsTrue (is_within (corners a b c) x y)
    → attribute which a ≡ p → attribute which b ≡ p → attribute which c ≡ p → mixed_of (corners a b c) which x y ≡ p
unfolding mixed_of
same_mixed a b c which p x y oriented_triangle inside e f g =
    let w = weights_of a b c x y inside in
    let area = unsigned_abs (doubled_area (corners a b c)) in
    let whole : area ≡ weight b c x y + weight c a x y + weight a b x y = ap unsigned_abs (sym w.sum) in
    rw (e, f, g)
    (same_over (weight b c x y) (weight c a x y) (weight a b x y) p area whole
    (omega (arith, ints, oriented_triangle.area)))

-- the colour of a cell of such a triangle
pub same_color : (a b c : Vertex) (t : Corners) (color : ℕ) (x y : ℤ) → corners a b c ≡ oriented t
    → IsUpright (corners a b c) → IsTrue (is_within (corners a b c) x y)
    → color ≡ a.color % 2 ^ 24 → b.color % 2 ^ 24 ≡ color → c.color % 2 ^ 24 ≡ color → HasColor t x y color
same_color a b c t color x y same oriented_triangle inside e f g = record {
  red = ap (λ w. mixed_of w 0 x y) (sym same)
      ∙ same_mixed a b c 0 (color % 256) x y oriented_triangle inside (omega (arith, e))
      (omega (arith, f)) (omega (arith, g));
  green = ap (λ w. mixed_of w 1 x y) (sym same) ∙ same_mixed a b c 1 (color / 256 % 256) x y oriented_triangle inside
      (omega (arith, e)) (omega (arith, f)) (omega (arith, g));
  blue = ap (λ w. mixed_of w 2 x y) (sym same) ∙ same_mixed a b c 2 (color / 65536 % 256) x y oriented_triangle inside
      (omega (arith, e)) (omega (arith, f)) (omega (arith, g));
}
