-- The sum of an attribute at a cell, computed from that at the first vertex.
use Rattle.std.proofs.Common.{ℕ, ◌+◌, ◌*◌, ◌^◌, ◌≡◌, ℤ, pos, ◌+ℤ◌, ◌-ℤ◌, ◌*ℤ◌, IsTrue, refl, ap, ◌∙◌, arith}
use Rattle.std.proofs.lemmas.Int.{ints}
use borrow.Author.Differences.{up, down}
use Rattle.px_num.specs.declared.shape.Vertex.{Vertex}
use Rattle.px_num.proofs.Ring.{at, sub, mul, same}
use Rattle.edge_walk.specs.Attribute.{attribute, step_of, row_step_of, weight}
use Rattle.edge_walk.specs.Plane.{from_least}
use Rattle.edge_walk.specs.Triangle.{corners, doubled_area, edge, is_within}
use Rattle.edge_walk.proofs.Corner.{sum_of_edges}
use Rattle.edge_walk.proofs.SumLemmas.{sum_at}
use Rattle.edge_walk.proofs.WeightLemmas.{weights_of}

edge_from : (p q : Vertex) (x y xa ya : ℤ)
    → edge p q x y ≡ (edge p q xa ya -ℤ (q.y -ℤ p.y) *ℤ (x -ℤ xa) -ℤ (p.x -ℤ q.x) *ℤ (y -ℤ ya))
unfolding edge
edge_from p q x y xa ya =
    same (sub (mul (sub (at q.x) (at p.x)) (sub (at y) (at p.y))) (mul (sub (at q.y) (at p.y)) (sub (at x) (at p.x))))
    (sub (sub (sub (mul (sub (at q.x) (at p.x)) (sub (at ya) (at p.y)))
    (mul (sub (at q.y) (at p.y)) (sub (at xa) (at p.x)))) (mul (sub (at q.y) (at p.y)) (sub (at x) (at xa))))
    (mul (sub (at p.x) (at q.x)) (sub (at y) (at ya))))
    (omega arith)

spread : (d : ℤ) (x xa : ℕ) → d *ℤ (pos x -ℤ pos xa) ≡ (d *ℤ pos x -ℤ d *ℤ pos xa)
spread d x xa = same (mul (at d) (sub (at (pos x)) (at (pos xa))))
    (sub (mul (at d) (at (pos x))) (mul (at d) (at (pos xa)))) (omega arith)

-- the weight m' at (x, y), if m is the weight at (xa, ya): the edge value decreases by d across and by e down
weight_part : (m m' xa ya x y : ℕ) (d e : ℤ) → pos m' ≡ (pos m -ℤ d *ℤ (pos x -ℤ pos xa) -ℤ e *ℤ (pos y -ℤ pos ya))
    → m' + up d * x + down d * xa + up e * y + down e * ya ≡ m + up d * xa + down d * x + up e * ya + down e * y
weight_part m m' xa ya x y d e h = omega (arith, ints, spread d x xa, spread e y ya)

module _ (p q s m n k m' n' k' xa ya x y : ℕ) (d e f d' e' f' : ℤ) where
  sum_moved : pos m' ≡ (pos m -ℤ d *ℤ (pos x -ℤ pos xa) -ℤ d' *ℤ (pos y -ℤ pos ya))
      → pos n' ≡ (pos n -ℤ e *ℤ (pos x -ℤ pos xa) -ℤ e' *ℤ (pos y -ℤ pos ya))
      → pos k' ≡ (pos k -ℤ f *ℤ (pos x -ℤ pos xa) -ℤ f' *ℤ (pos y -ℤ pos ya))
      → (step fall : ℤ) → step ≡ (pos 0 -ℤ pos p *ℤ d -ℤ pos q *ℤ e -ℤ pos s *ℤ f)
      → fall ≡ (pos 0 -ℤ pos p *ℤ d' -ℤ pos q *ℤ e' -ℤ pos s *ℤ f')
      → (m' * p + n' * q + k' * s) + up step * xa + down step * x + up fall * ya + down fall * y
      ≡ (m * p + n * q + k * s) + up step * x + down step * xa + up fall * y + down fall * ya
  sum_moved is_m is_n is_k step fall step_is fall_is =
      let across : up step + p * up d + q * up e + s * up f ≡ down step + p * down d + q * down e + s * down f = omega
      (arith, ints, step_is) in
      let downward : up fall + p * up d' + q * up e' + s * up f'
      ≡ down fall + p * down d' + q * down e' + s * down f' = omega (arith, ints, fall_is) in
      omega (
        arith,
        ap (λ z. z * p) (weight_part m m' xa ya x y d d' is_m),
        ap (λ z. z * q) (weight_part n n' xa ya x y e e' is_n),
        ap (λ z. z * s) (weight_part k k' xa ya x y f f' is_k),
        ap (λ z. z * x) across,
        ap (λ z. z * xa) across,
        ap (λ z. z * y) downward,
        ap (λ z. z * ya) downward,
      )

edge_at_first : (p q : Vertex) → edge p q p.x p.y ≡ pos 0
unfolding edge
edge_at_first p q =
    same (sub (mul (sub (at q.x) (at p.x)) (sub (at p.y) (at p.y)))
    (mul (sub (at q.y) (at p.y)) (sub (at p.x) (at p.x)))) (at (pos 0)) (omega arith)

edge_at_second : (p q : Vertex) → edge p q q.x q.y ≡ pos 0
unfolding edge
edge_at_second p q =
    same (sub (mul (sub (at q.x) (at p.x)) (sub (at q.y) (at p.y)))
    (mul (sub (at q.y) (at p.y)) (sub (at q.x) (at p.x)))) (at (pos 0)) (omega arith)

edge_apart : (p q : Vertex) (x y xa ya dx dy : ℤ) → (x -ℤ xa) ≡ dx → (y -ℤ ya) ≡ dy
    → edge p q x y ≡ (edge p q xa ya -ℤ (q.y -ℤ p.y) *ℤ dx -ℤ (p.x -ℤ q.x) *ℤ dy)
edge_apart p q x y xa ya dx dy ex ey = edge_from p q x y xa ya
    ∙ ap (λ d. edge p q xa ya -ℤ (q.y -ℤ p.y) *ℤ d -ℤ (p.x -ℤ q.x) *ℤ (y -ℤ ya)) ex
    ∙ ap (λ d. edge p q xa ya -ℤ (q.y -ℤ p.y) *ℤ dx -ℤ (p.x -ℤ q.x) *ℤ d) ey

-- a coordinate counted from the least possible one has the right value
abbrev pub IsCounted : ℤ → Type 0
IsCounted x = pos (from_least x) ≡ (x +ℤ pos (2 ^ 31))

pub sum_here : (a b c : Vertex) (which area : ℕ) (x y : ℤ) → IsTrue (is_within (corners a b c) x y)
    → pos area ≡ doubled_area (corners a b c) → IsCounted a.x → IsCounted a.y → IsCounted x → IsCounted y
    → sum_at a b c which x y + up (step_of (corners a b c) which) * from_least a.x + down
    (step_of (corners a b c) which) * from_least x + up (row_step_of (corners a b c) which) * from_least a.y + down
    (row_step_of (corners a b c) which) * from_least y
    ≡ area * attribute which a + up (step_of (corners a b c) which) * from_least x + down
    (step_of (corners a b c) which) * from_least a.x + up (row_step_of (corners a b c) which) * from_least y
    + down (row_step_of (corners a b c) which) * from_least a.y
sum_here a b c which area x y inside area_is xa_is ya_is x_is y_is =
    let w = weights_of a b c x y inside in
    let dx : (x -ℤ a.x) ≡ (pos (from_least x) -ℤ pos (from_least a.x)) = omega (arith, ints, xa_is, x_is) in
    let dy : (y -ℤ a.y) ≡ (pos (from_least y) -ℤ pos (from_least a.y)) = omega (arith, ints, ya_is, y_is) in
    let ab = edge_at_first a b in
    let ca = edge_at_second c a in
    let bc : edge b c a.x a.y ≡ pos area = let sum = sum_of_edges a b c a.x a.y in
    omega (arith, ints, ab, ca, sum, area_is) in
    let all = sum_moved (attribute which a) (attribute which b) (attribute which c) area 0 0 (weight b c x y)
    (weight c a x y) (weight a b x y) (from_least a.x) (from_least a.y) (from_least x) (from_least y)
    (c.y -ℤ b.y) (a.y -ℤ c.y) (b.y -ℤ a.y) (b.x -ℤ c.x) (c.x -ℤ a.x) (a.x -ℤ b.x)
    (w.first ∙ edge_apart b c x y a.x a.y _ _ dx dy
    ∙ ap (λ e. e -ℤ (c.y -ℤ b.y) *ℤ (pos (from_least x) -ℤ pos (from_least a.x)) -ℤ (b.x -ℤ c.x) *ℤ
    (pos (from_least y) -ℤ pos (from_least a.y))) bc)
    (w.second ∙ edge_apart c a x y a.x a.y _ _ dx dy
    ∙ ap (λ e. e -ℤ (a.y -ℤ c.y) *ℤ (pos (from_least x) -ℤ pos (from_least a.x)) -ℤ (c.x -ℤ a.x) *ℤ
    (pos (from_least y) -ℤ pos (from_least a.y))) ca)
    (w.third ∙ edge_apart a b x y a.x a.y _ _ dx dy
    ∙ ap (λ e. e -ℤ (b.y -ℤ a.y) *ℤ (pos (from_least x) -ℤ pos (from_least a.x)) -ℤ (a.x -ℤ b.x) *ℤ
    (pos (from_least y) -ℤ pos (from_least a.y))) ab)
    (step_of (corners a b c) which) (row_step_of (corners a b c) which) refl refl in
    omega (arith, all)
