-- The cells of a row on one side of an edge.
use Rattle.std.proofs.Common.{zero, suc, int_lt, ◌+◌, ◌≤◌, ◌≡◌, ℤ, pos, negsuc, ◌-ℤ◌, ◌*ℤ◌, ◌≤ℤ◌, ◌<ℤ◌, ◌↔◌}
use Rattle.std.proofs.Common.{Bool, true, false, IsTrue, cond, ◌&&◌, ◌||◌, refl, arith}
use Rattle.std.proofs.lemmas.Int.{ints}
use Rattle.std.proofs.Math.Nat.{mul-le-mul_right}
use borrow.Author.Differences.{up, down}
use Rattle.std.specs.Ordering.{int_eq}
use Rattle.px_num.specs.declared.shape.Vertex.{Vertex}
use Rattle.edge_walk.specs.Row.{least_value}
use Rattle.edge_walk.specs.Triangle.{is_on_side, is_kept_edge, edge}

le_ups : (x y : ℤ) → x ≤ℤ y → up x + down y ≤ up y + down x
le_ups x y h = omega (arith, ints)

-- multiplication by a positive number preserves order
pub mul_mono : (d x y : ℤ) → pos 0 <ℤ d → x ≤ℤ y → (x *ℤ d) ≤ℤ (y *ℤ d)
mul_mono (pos d) x y h le = omega (arith, ints, mul-le-mul_right d (le_ups x y le))
mul_mono (negsuc d) x y h le = absurd (omega (arith, ints))

-- the test of an edge value, as a bound
threshold : (e : ℤ) (k : Bool) → IsTrue (int_lt (pos 0) e || (int_eq e (pos 0) && k))
    ↔ (cond k (pos 0) (pos 1) ≤ℤ e)
threshold (pos zero) true = (λ _. omega (arith, ints), λ _. refl)
threshold (pos zero) false = (λ h. absurd cc, λ h. absurd (omega (arith, ints)))
threshold (pos (suc n)) true = let t : true ≡ int_lt (pos 0) (pos (suc n)) = omega (arith, ints) in
    (λ _. omega (arith, ints), λ _. rw (← t) refl)
threshold (pos (suc n)) false = let t : true ≡ int_lt (pos 0) (pos (suc n)) = omega (arith, ints) in
    (λ _. omega (arith, ints), λ _. rw (← t) refl)
threshold (negsuc n) true = (λ h. absurd cc, λ h. absurd (omega (arith, ints)))
threshold (negsuc n) false = (λ h. absurd cc, λ h. absurd (omega (arith, ints)))

pub on_side_iff : (p q : Vertex) (x y : ℤ) → IsTrue (is_on_side p q x y)
    ↔ (least_value p q ≤ℤ ((q.x -ℤ p.x) *ℤ (y -ℤ p.y) -ℤ (q.y -ℤ p.y) *ℤ (x -ℤ p.x)))
unfolding is_on_side edge
on_side_iff p q x y = threshold (edge p q x y) (is_kept_edge p q)

pub both_true : (a b : Bool) → IsTrue (a && b) ↔ (IsTrue a × IsTrue b)
both_true true b = (λ h. (refl, h), λ h. h.1)
both_true false b = (λ h. absurd cc, λ h. absurd cc)
