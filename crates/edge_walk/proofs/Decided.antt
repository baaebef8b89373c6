-- Whether a triangle is drawn, as a proposition and as a test.
use Rattle.std.proofs.Common.{ℕ, ◌≤◌, ◌≡◌, ◌≢◌, ℤ, pos, ◌↔◌, IsTrue, Bool, true, false, not, leb, eqb, unsigned_abs}
use Rattle.std.proofs.Common.{refl, sym, arith}
use Rattle.std.proofs.lemmas.Bool.Decides.{nat_tests}
use Rattle.std.proofs.lemmas.Int.{ints}
use Rattle.px_num.specs.declared.shape.Vertex.{Vertex}
use Rattle.edge_walk.specs.Triangle.{Corners, doubled_area, is_near, is_drawn, IsNear, IsDrawn}
use Rattle.edge_walk.proofs.RowLemmas.{both_true}

at_most : (a b : ℕ) → IsTrue (leb a b) ↔ (a ≤ b)
at_most a b = (at_most_to a b, at_most_from a b)
  where
    at_most_to : (a b : ℕ) → IsTrue (leb a b) → a ≤ b
    at_most_to a b h = grind (arith, nat_tests)

    at_most_from : (a b : ℕ) → a ≤ b → IsTrue (leb a b)
    at_most_from a b h = grind (arith, nat_tests)

is_near-iff : (p q : Vertex) → IsTrue (is_near p q) ↔ IsNear p q
is_near-iff p q = (
  λ h. let u = (both_true _ _).0 h in record { across = (at_most _ _).0 u.0; down = (at_most _ _).0 u.1 },
  λ h. (both_true _ _).1 ((at_most _ _).1 h.across, (at_most _ _).1 h.down),
)

not_zero : (z : ℤ) → IsTrue (not (eqb (unsigned_abs z) 0)) ↔ (z ≢ pos 0)
not_zero z = (
  λ h e. some_to (unsigned_abs z) h (omega (arith, ints)),
  λ h. some_from (unsigned_abs z)
      (omega (arith, ints)),
)
  where
    some_to : (n : ℕ) → IsTrue (not (eqb n 0)) → n ≢ 0
    some_to n h = grind (arith, nat_tests)

    some_from : (n : ℕ) → n ≢ 0 → IsTrue (not (eqb n 0))
    some_from n h = grind (arith, nat_tests)

pub is_drawn-iff : (t : Corners) → IsTrue (is_drawn t) ↔ IsDrawn t
unfolding is_drawn
is_drawn-iff t = (
  λ h. let u = (both_true _ _).0 h in let v = (both_true _ _).0 u.0 in let w = (both_true _ _).0 v.0 in record {
    small = record { one = (is_near-iff _ _).0 w.0; two = (is_near-iff _ _).0 w.1; three = (is_near-iff _ _).0 v.1 };
    area = (not_zero (doubled_area t)).0 u.1;
  },
  λ h. (both_true _ _).1 (
    (both_true _ _).1 (
      (both_true _ _).1 ((is_near-iff _ _).1 h.small.one, (is_near-iff _ _).1 h.small.two),
      (is_near-iff _ _).1 h.small.three,
    ),
    (not_zero (doubled_area t)).1 h.area,
  ),
)

pub not_true : (b : Bool) → (IsTrue b → ⊥) → b ≡ false
not_true true h = absurd (h refl)
not_true false h = refl

pub is_drawn-yes : (t : Corners) → IsDrawn t → true ≡ is_drawn t
is_drawn-yes t h = sym ((is_drawn-iff t).1 h)

pub is_drawn-no : (t : Corners) → (IsDrawn t → ⊥) → false ≡ is_drawn t
is_drawn-no t h = sym (not_true (is_drawn t) (λ u. h ((is_drawn-iff t).0 u)))
