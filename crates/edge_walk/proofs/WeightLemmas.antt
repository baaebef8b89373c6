-- Edge values of the cells inside, as weights.
use Rattle.std.proofs.Common.{◌+◌, ◌≡◌, ℤ, pos, ◌-ℤ◌, ◌*ℤ◌, ◌≤ℤ◌, Bool, true, false, cond, ◌&&◌, IsTrue}
use Rattle.std.proofs.Common.{refl, arith}
use Rattle.std.proofs.lemmas.Int.{ints}
use Rattle.px_num.specs.declared.shape.Vertex.{Vertex}
use Rattle.edge_walk.specs.Triangle.{corners, doubled_area, edge, is_on_side, is_within, is_kept_edge}
use Rattle.edge_walk.specs.Attribute.{weight}
use Rattle.edge_walk.proofs.Corner.{sum_of_edges}
use Rattle.edge_walk.proofs.RowLemmas.{on_side_iff, both_true}

least_positive : (k : Bool) → pos 0 ≤ℤ cond k (pos 0) (pos 1)
least_positive true = omega (arith, ints)
least_positive false = omega (arith, ints)

pub edge_is : (p q : Vertex) (x y : ℤ) → ((q.x -ℤ p.x) *ℤ (y -ℤ p.y) -ℤ (q.y -ℤ p.y) *ℤ (x -ℤ p.x)) ≡ edge p q x y
unfolding edge
edge_is p q x y = refl

on_side_positive : (p q : Vertex) (x y : ℤ) → IsTrue (is_on_side p q x y) → pos 0 ≤ℤ edge p q x y
on_side_positive p q x y h =
    let low = (on_side_iff p q x y).0 h in
    let e = edge_is p q x y in
    let k = least_positive (is_kept_edge p q) in
    omega (arith, ints, low, e, k)

pub positive_edges : (a b c : Vertex) (x y : ℤ) → IsTrue (is_within (corners a b c) x y)
    → (pos 0 ≤ℤ edge a b x y) × (pos 0 ≤ℤ edge b c x y) × (pos 0 ≤ℤ edge c a x y)
unfolding is_within
positive_edges a b c x y h =
    let u = (both_true (is_on_side a b x y && is_on_side b c x y) (is_on_side c a x y)).0 h in
    let v = (both_true (is_on_side a b x y) (is_on_side b c x y)).0 u.0 in
    (on_side_positive a b x y v.0, on_side_positive b c x y v.1, on_side_positive c a x y u.1)

weight_is : (p q : Vertex) (x y : ℤ) → pos 0 ≤ℤ edge p q x y → pos (weight p q x y) ≡ edge p q x y
unfolding weight
weight_is p q x y h = omega (arith, ints)

-- the weights of a cell are its edge values, and their sum is the doubled area
pub record AreWeights (a b c : Vertex) (x y : ℤ) : Type 0 where
  pub first : pos (weight b c x y) ≡ edge b c x y
  pub second : pos (weight c a x y) ≡ edge c a x y
  pub third : pos (weight a b x y) ≡ edge a b x y
  pub sum : pos (weight b c x y + weight c a x y + weight a b x y) ≡ doubled_area (corners a b c)

pub weights_of : (a b c : Vertex) (x y : ℤ) → IsTrue (is_within (corners a b c) x y) → AreWeights a b c x y
weights_of a b c x y inside =
    let low = positive_edges a b c x y inside in
    let one = weight_is b c x y low.1 in
    let two = weight_is c a x y low.2 in
    let three = weight_is a b x y low.0 in
    let total = sum_of_edges a b c x y in
    record { first = one; second = two; third = three; sum = omega (arith, ints, one, two, three, total) }
