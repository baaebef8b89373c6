-- The sum of an attribute, from cell to cell of a row.
use Rattle.std.proofs.Common.{ℕ, ◌+◌, ◌*◌, ◌/◌, ◌≤◌, ◌≡◌, ℤ, pos, ◌+ℤ◌, ◌-ℤ◌, ◌*ℤ◌, ◌≤ℤ◌, IsTrue, unsigned_abs}
use Rattle.std.proofs.Common.{refl, sym, ap, ◌∙◌, arith}
use Rattle.std.proofs.lemmas.Int.{ints}
use borrow.Author.Differences.{up, down}
use Rattle.px_num.specs.declared.shape.Vertex.{Vertex}
use Rattle.px_num.proofs.Ring.{at, add, sub, mul, same}
use Rattle.edge_walk.specs.Attribute.{attribute, mixed_of, step_of, weight, AreBytes}
use Rattle.edge_walk.specs.Triangle.{Corners, corners, doubled_area, edge, is_within}
use Rattle.edge_walk.proofs.WeightLemmas.{weights_of}

-- the sum at a cell inside
abbrev pub sum_at : Vertex → Vertex → Vertex → ℕ → ℤ → ℤ → ℕ
sum_at a b c which x y =
    weight b c x y * attribute which a + weight c a x y * attribute which b + weight a b x y * attribute which c

bytes_bound : (m n k p q s : ℕ) → p ≤ 255 → q ≤ 255 → s ≤ 255 → m * p + n * q + k * s ≤ 255 * (m + n + k)
bytes_bound m n k p q s a b c = grind arith

pub sum_small : (a b c : Vertex) (which area : ℕ) (x y : ℤ) → IsTrue (is_within (corners a b c) x y)
    → AreBytes which (corners a b c) → pos area ≡ doubled_area (corners a b c)
    → sum_at a b c which x y ≤ 255 * area
sum_small a b c which area x y inside bytes area_is =
    let w = weights_of a b c x y inside in
    let bound = bytes_bound (weight b c x y) (weight c a x y) (weight a b x y) (attribute which a) (attribute which b)
    (attribute which c) bytes.first bytes.second bytes.third in
    omega (arith, ints, bound, w.sum, area_is)

-- ---- some cells to the right

part : (m m' j : ℕ) (d : ℤ) → pos m' ≡ (pos m -ℤ d *ℤ pos j) → m' + up d * j ≡ m + down d * j
part m m' j d e = omega (arith, ints)

sum_further : (p q s m n k m' n' k' j : ℕ) (d e f : ℤ) → pos m' ≡ (pos m -ℤ d *ℤ pos j)
    → pos n' ≡ (pos n -ℤ e *ℤ pos j) → pos k' ≡ (pos k -ℤ f *ℤ pos j)
    → pos (m' * p + n' * q + k' * s)
    ≡ (pos (m * p + n * q + k * s) +ℤ (pos 0 -ℤ pos p *ℤ d -ℤ pos q *ℤ e -ℤ pos s *ℤ f) *ℤ pos j)
sum_further p q s m n k m' n' k' j d e f is_m is_n is_k =
    same (at (pos (m' * p + n' * q + k' * s)))
    (add (at (pos (m * p + n * q + k * s)))
    (mul (sub (sub (sub (at (pos 0)) (mul (at (pos p)) (at d))) (mul (at (pos q)) (at e)))
    (mul (at (pos s)) (at f))) (at (pos j))))
    (omega (
      arith,
      ap (λ z. z * p) (part m m' j d is_m),
      ap (λ z. z * q) (part n n' j e is_n),
      ap (λ z. z * s)
          (part k k' j f is_k),
    ))

edge_further : (p q : Vertex) (x y z : ℤ) → edge p q (x +ℤ z) y ≡ (edge p q x y -ℤ (q.y -ℤ p.y) *ℤ z)
unfolding edge
edge_further p q x y z =
    same (sub (mul (sub (at q.x) (at p.x)) (sub (at y) (at p.y)))
    (mul (sub (at q.y) (at p.y)) (sub (add (at x) (at z)) (at p.x))))
    (sub (sub (mul (sub (at q.x) (at p.x)) (sub (at y) (at p.y))) (mul (sub (at q.y) (at p.y)) (sub (at x) (at p.x))))
    (mul (sub (at q.y) (at p.y)) (at z)))
    (omega arith)

-- a sum and an area that give the attribute of a cell
pub record IsLane (t : Corners) (which : ℕ) (x y : ℤ) (sum : ℤ) (area : ℕ) : Type 0 where
  pub low : pos 0 ≤ℤ sum
  pub high : unsigned_abs sum ≤ 255 * area
  pub value : unsigned_abs sum / area ≡ mixed_of t which x y

pub lane_is : (a b c : Vertex) (which area : ℕ) (x y : ℤ) (j : ℕ) (step : ℤ) → IsTrue (is_within (corners a b c) x y)
    → IsTrue (is_within (corners a b c) (x +ℤ pos j) y) → AreBytes which (corners a b c)
    → pos area ≡ doubled_area (corners a b c) → step ≡ step_of (corners a b c) which
    → IsLane (corners a b c) which (x +ℤ pos j) y (pos (sum_at a b c which x y) +ℤ step *ℤ pos j) area
unfolding mixed_of
lane_is a b c which area x y j step here there bytes area_is step_is =
    let z = x +ℤ pos j in
    let w = weights_of a b c x y here in
    let v = weights_of a b c z y there in
    let total : pos (sum_at a b c which z y) ≡ (pos (sum_at a b c which x y) +ℤ step *ℤ pos j) =
    rw step_is (sum_further (attribute which a) (attribute which b) (attribute which c) (weight b c x y)
    (weight c a x y) (weight a b x y) (weight b c z y) (weight c a z y) (weight a b z y) j
    (c.y -ℤ b.y) (a.y -ℤ c.y) (b.y -ℤ a.y)
    (v.first ∙ edge_further b c x y (pos j) ∙ ap (λ e. e -ℤ (c.y -ℤ b.y) *ℤ pos j) (sym w.first))
    (v.second ∙ edge_further c a x y (pos j) ∙ ap (λ e. e -ℤ (a.y -ℤ c.y) *ℤ pos j) (sym w.second))
    (v.third ∙ edge_further a b x y (pos j) ∙ ap (λ e. e -ℤ (b.y -ℤ a.y) *ℤ pos j) (sym w.third))) in
    let natural : unsigned_abs (pos (sum_at a b c which x y) +ℤ step *ℤ pos j) ≡ sum_at a b c which z y =
    ap unsigned_abs (sym total) in
    let whole : unsigned_abs (doubled_area (corners a b c)) ≡ area = ap unsigned_abs (sym area_is) in record {
      low = rw (← total) (omega (arith, ints));
      high = rw natural (sum_small a b c which area z y there bytes area_is);
      value = rw (natural, ← whole) refl;
    }
