-- Whether the size rule admits a segment, as a proposition and as a test.
use Rattle.std.proofs.Common.{ℕ, ◌≤◌, ◌≡◌, ◌-ℤ◌, ◌↔◌, IsTrue, Bool, true, false, ◌&&◌, leb, unsigned_abs, refl, sym}
use Rattle.std.proofs.Common.{arith}
use Rattle.std.proofs.lemmas.Bool.Decides.{nat_tests}
use Rattle.px_num.specs.declared.shape.Vertex.{Vertex}
use Rattle.line_walk.specs.Line.{is_near, IsNear}

both_true : (m n j k : ℕ) → IsTrue (leb m n && leb j k) → (m ≤ n) × (j ≤ k)
both_true m n j k h = grind (arith, nat_tests)

true_both : (m n j k : ℕ) → m ≤ n → j ≤ k → IsTrue (leb m n && leb j k)
true_both m n j k g h = grind (arith, nat_tests)

pub is_near-iff : (p q : Vertex) → IsTrue (is_near p q) ↔ IsNear p q
is_near-iff p q = (
  λ h. let both = both_true (unsigned_abs (p.x -ℤ q.x)) 1023 (unsigned_abs (p.y -ℤ q.y)) 511 h in
      record { across = both.0; down = both.1 },
  λ h. true_both _ _ _ _ h.across h.down,
)

not_true : (b : Bool) → (IsTrue b → ⊥) → b ≡ false
not_true true h = absurd (h refl)
not_true false h = refl

pub is_near-no : (p q : Vertex) → (IsNear p q → ⊥) → false ≡ is_near p q
is_near-no p q h = sym (not_true (is_near p q) (λ u. h ((is_near-iff p q).0 u)))
