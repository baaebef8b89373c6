-- Edges from row to row.
use Rattle.std.proofs.Common.{ℕ, ◌+◌, ◌-◌, ◌%◌, ◌^◌, ◌≤◌, ◌<◌, ◌≡◌, ℤ, pos, ◌+ℤ◌, ◌-ℤ◌, ◌*ℤ◌, ◌≤ℤ◌, ◌<ℤ◌, ◌↔◌}
use Rattle.std.proofs.Common.{IsTrue, unsigned_abs, FitsSigned, w32, arith}
use Rattle.std.proofs.lemmas.Int.{ints, unsigned_abs-mul}
use Rattle.std.proofs.lemmas.Nat.{mul-le}
use Rattle.px_num.proofs.Ring.{at, add, sub, mul, same}
use Rattle.px_num.specs.declared.shape.Vertex.{Vertex}
use Rattle.edge_walk.specs.declared.edge_stepper.EdgeStepper.{EdgeStepper}
use Rattle.edge_walk.specs.declared.slope.Bound.{Bound}
use Rattle.edge_walk.specs.declared.slope.Bound.TheVariants.{AtMost, Above}
use Rattle.edge_walk.specs.Triangle.{is_on_side, IsNear}
use Rattle.edge_walk.specs.Walk.{in_parts, start_value, IsBounded, IsSide}
use Rattle.edge_walk.proofs.RowLemmas.{on_side_iff}

-- ---- one row below

product_small : (a b : ℤ) → unsigned_abs a ≤ 1023 → unsigned_abs b ≤ 512 → unsigned_abs (a *ℤ b) ≤ 523776
product_small a b g h = rw unsigned_abs-mul (mul-le (unsigned_abs a) (unsigned_abs b) 1023 512 g h)

pub far_small : (a b : ℤ) → unsigned_abs a ≤ 2 ^ 19 → unsigned_abs b ≤ 2 ^ 41 → unsigned_abs (a *ℤ b) ≤ 2 ^ 60
far_small a b g h = rw unsigned_abs-mul (mul-le (unsigned_abs a) (unsigned_abs b) (2 ^ 19) (2 ^ 41) g h)

pub value_small : (p q : Vertex) (y : ℤ) → IsNear p q → unsigned_abs (y -ℤ p.y) ≤ 512
    → unsigned_abs (start_value p q y) < 2 ^ 19
value_small p q y near reach =
    let product = product_small (q.x -ℤ p.x) (y -ℤ p.y) (omega (arith, ints, near.across)) reach in
    omega (arith, ints, product)

one_more : (a y p : ℤ) → a *ℤ ((y +ℤ pos 1) -ℤ p) ≡ (a *ℤ (y -ℤ p) +ℤ a)
one_more a y p = same (mul (at a) (sub (add (at y) (at (pos 1))) (at p))) (add (mul (at a) (sub (at y) (at p))) (at a))
    (omega arith)

grown : (a b d c : ℤ) → b ≡ (a +ℤ d) → b *ℤ c ≡ (a *ℤ c +ℤ d *ℤ c)
grown a b d c e = rw e
    (same (mul (add (at a) (at d)) (at c)) (add (mul (at a) (at c)) (mul (at d) (at c))) (omega arith))

-- an addition that wraps, if its result does not
stepped : (held by raised next : ℕ) (start far step far' slack : ℤ) → pos held ≡ (start +ℤ (far +ℤ slack))
    → pos raised ≡ (step +ℤ pos (2 ^ 62)) → by ≡ (raised + (2 ^ 64 - 2 ^ 62)) % 2 ^ 64
    → next ≡ (held + by) % 2 ^ 64 → far' ≡ (far +ℤ step) → pos 0 ≤ℤ (start +ℤ (far' +ℤ slack))
    → (start +ℤ (far' +ℤ slack)) <ℤ pos (2 ^ 63) → pos next ≡ (start +ℤ (far' +ℤ slack))
stepped held by raised next start far step far' slack is step_is by_is next_is more low high = omega
    (arith, ints, is, step_is, by_is, next_is, more, low, high)

pub in_reach : (p far slack : ℤ) → FitsSigned w32 p → unsigned_abs far ≤ 2 ^ 60
    → unsigned_abs slack ≤ 2 ^ 40
    → (pos 0 ≤ℤ (in_parts p +ℤ (far +ℤ slack))) × ((in_parts p +ℤ (far +ℤ slack)) <ℤ pos (2 ^ 63))
in_reach p far slack start small least =
    (omega (arith, ints, start, small, least), omega (arith, ints, start, small, least))

-- the stored column of an edge when it is made
pub record IsPlaced (start_held far_held : ℕ) (is : ℤ) : Type 0 where
  pub enough : 2 ^ 62 ≤ start_held + far_held
  pub fits : start_held + far_held < 2 ^ 64
  pub value : pos (start_held + far_held - 2 ^ 62) ≡ is

pub placed : (start_held far_held : ℕ) (start far slack : ℤ) → pos start_held ≡ start
    → pos far_held ≡ (far +ℤ slack +ℤ pos (2 ^ 62)) → pos 0 ≤ℤ (start +ℤ (far +ℤ slack))
    → (start +ℤ (far +ℤ slack)) <ℤ pos (2 ^ 63)
    → IsPlaced start_held far_held (start +ℤ (far +ℤ slack))
placed start_held far_held start far slack is far_is low high = record {
  enough = omega (arith, ints, is, far_is, low);
  fits = omega (arith, ints, is, far_is, high);
  value = omega (arith, ints, is, far_is, low);
}

pub moved_with : (p q : Vertex) (y : ℤ) (s : EdgeStepper) (next : ℕ) → IsNear p q
    → unsigned_abs ((y +ℤ pos 1) -ℤ p.y) ≤ 512 → IsSide p q y s → next ≡ (s.at + s.by) % 2 ^ 64
    → IsSide p q (y +ℤ pos 1) (record { bound = s.bound; at = next; by = s.by })
moved_with p q y s next near reach h next_is =
    let small = value_small p q (y +ℤ pos 1) near reach in
    let far = far_small (start_value p q (y +ℤ pos 1)) h.slope.scale (omega (arith, small)) h.is_slope.scale in
    let reached = in_reach p.x (start_value p q (y +ℤ pos 1) *ℤ h.slope.scale) h.slope.slack h.start far
    h.is_slope.slack in record {
      slope = h.slope;
      is_slope = h.is_slope;
      bound = h.bound;
      start = h.start;
      at = stepped s.at s.by h.raised next (in_parts p.x) (start_value p q y *ℤ h.slope.scale)
          ((q.x -ℤ p.x) *ℤ h.slope.scale) (start_value p q (y +ℤ pos 1) *ℤ h.slope.scale) h.slope.slack
          h.at h.step h.by next_is
          (grown (start_value p q y) (start_value p q (y +ℤ pos 1)) (q.x -ℤ p.x) h.slope.scale
          (one_more (q.x -ℤ p.x) y p.y)) reached.0 reached.1;
      raised = h.raised;
      by = h.by;
      step = h.step;
    }

-- ---- the columns of a row

shifted : (b : Bound) (start far k from x : ℤ) → from ≡ (start +ℤ far) → x ≡ (start +ℤ k) → IsBounded b far k
    ↔ IsBounded b from x
shifted AtMost start far k from x is_from is_x =
    (λ h. omega (arith, ints, is_from, is_x, h), λ h. omega (arith, ints, is_from, is_x, h))
shifted Above start far k from x is_from is_x =
    (λ h. omega (arith, ints, is_from, is_x, h), λ h. omega (arith, ints, is_from, is_x, h))

parts_apart : (p x : ℤ) → in_parts x ≡ (in_parts p +ℤ (x -ℤ p) *ℤ pos (2 ^ 30))
parts_apart p x = same (add (mul (at x) (at (pos (2 ^ 30)))) (at (pos (2 ^ 62))))
    (add (add (mul (at p) (at (pos (2 ^ 30)))) (at (pos (2 ^ 62))))
    (mul (sub (at x) (at p)) (at (pos (2 ^ 30))))) (omega arith)

-- an edge admits the columns of the cells on its inner side
pub bounded : (p q : Vertex) (x y : ℤ) (s : EdgeStepper) → IsSide p q y s → unsigned_abs (x -ℤ p.x) ≤ 1023
    → IsTrue (is_on_side p q x y) ↔ IsBounded s.bound (pos s.at) (in_parts x)
bounded p q x y s h near =
    let on = on_side_iff p q x y in
    let solved = h.is_slope.solves (x -ℤ p.x) (start_value p q y) near in
    let shift = shifted h.slope.bound (in_parts p.x) (start_value p q y *ℤ h.slope.scale +ℤ h.slope.slack)
    ((x -ℤ p.x) *ℤ pos (2 ^ 30)) (pos s.at) (in_parts x) h.at (parts_apart p.x x) in
    rw h.bound (λ t. shift.0 (solved.0 (on.0 t)), λ b. on.1 (solved.1 (shift.1 b)))
