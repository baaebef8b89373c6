-- Attributes of a cell from its weights.
use Rattle.std.proofs.Common.{ℕ, ◌+◌, ◌*◌, ◌/◌, ◌≡◌, ℤ, pos, ◌≤ℤ◌, IsTrue, unsigned_abs, refl, sym, ap, ◌∙◌, arith}
use Rattle.std.proofs.lemmas.Int.{ints}
use Rattle.px_num.specs.declared.shape.Vertex.{Vertex}
use Rattle.edge_walk.specs.Attribute.{attribute, mixed_of, weight}
use Rattle.edge_walk.specs.Triangle.{corners, doubled_area, edge, is_within, IsSmall}
use Rattle.edge_walk.proofs.AreaLemmas.{area_small}
use Rattle.edge_walk.proofs.WeightLemmas.{weights_of}

-- an edge value that is a weight: at least 0, and at most the greatest area
pub record IsWeight (value : ℤ) : Type 0 where
  pub low : pos 0 ≤ℤ value
  pub high : value ≤ℤ pos 1045506

pub record AreEdges (a b c : Vertex) (x y : ℤ) : Type 0 where
  pub first : IsWeight (edge b c x y)
  pub second : IsWeight (edge c a x y)
  pub third : IsWeight (edge a b x y)

pub edges_of : (a b c : Vertex) (x y : ℤ) → IsSmall (corners a b c) → IsTrue (is_within (corners a b c) x y)
    → AreEdges a b c x y
edges_of a b c x y small inside =
    let w = weights_of a b c x y inside in
    let bound = area_small a b c small.one small.three in record {
      first = record { low = omega (arith, ints, w.first); high = omega (arith, ints, w.first, w.sum, bound) };
      second = record { low = omega (arith, ints, w.second); high = omega (arith, ints, w.second, w.sum, bound) };
      third = record { low = omega (arith, ints, w.third); high = omega (arith, ints, w.third, w.sum, bound) };
    }

pub mixed_is : (a b c : Vertex) (which : ℕ) (x y : ℤ) (m n k p q s r : ℕ) → pos m ≡ edge b c x y → pos n ≡ edge c a x y
    → pos k ≡ edge a b x y → pos (m + n + k) ≡ doubled_area (corners a b c)
    → p ≡ attribute which a → q ≡ attribute which b → s ≡ attribute which c → r ≡ (m * p + n * q + k * s) / (m + n + k)
    → r ≡ mixed_of (corners a b c) which x y
unfolding mixed_of weight
mixed_is a b c which x y m n k p q s r e f g h p_is q_is s_is r_is =
    let e' : unsigned_abs (edge b c x y) ≡ m = sym (ap unsigned_abs e) in
    let f' : unsigned_abs (edge c a x y) ≡ n = sym (ap unsigned_abs f) in
    let g' : unsigned_abs (edge a b x y) ≡ k = sym (ap unsigned_abs g) in
    let h' : unsigned_abs (doubled_area (corners a b c)) ≡ m + n + k = sym (ap unsigned_abs h) in
    r_is ∙ rw (e', f', g', h', p_is, q_is, s_is) refl
