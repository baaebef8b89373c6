-- Equality of vectors.
use Rattle.std.proofs.Common.{◌≡◌, ℕ, ◌/◌, ◌%◌, ◌^◌, List, Bool, cond, not, eqb, length, get_or, w16, IsTrue}
use Rattle.std.proofs.Common.{[], ◌∷◌, suc, ◌<◌, false, refl, sym, ap, ◌∙◌, arith}
use lib.Lanes.{zip2, mask_l}
use Rattle.std.proofs.Math.Nat.{zero-div}
use Rattle.std.proofs.lemmas.Bool.Decides.{nat_tests}
use Rattle.std.proofs.lemmas.Simd.{tops_compared, bit_mask_l, mask_l-lt}
use Rattle.px_num.specs.Lanes.{EachLane}
use Rattle.px_num.proofs.LaneOps.{compared, long_test, at_test}

equal : (x y : ℕ) → ◌≡◌ {A = ℕ} (cond (not (eqb x y)) 1 0) 0 → x ≡ y
equal x y e = grind (arith, nat_tests)

is_zero : (n : ℕ) → IsTrue (eqb n 0) → n ≡ 0
is_zero n h = grind (arith, nat_tests)

no_bit : (n p : ℕ) → n ≡ 0 → n / p % 2 ≡ 0
no_bit n p e = rw (e, zero-div p) (omega arith)

pub same_lanes : (a b : List ℕ) → length a ≡ 16 → length b ≡ 16
    → IsTrue (eqb (mask_l (compared w16 (λ x y. not (eqb x y)) a b) % 2 ^ 64) 0)
    → EachLane (λ i. get_or a i 0 ≡ get_or b i 0)
same_lanes a b long_a long_b h i lt =
    let t : ℕ → ℕ → Bool = (λ x y. not (eqb x y)) in
    let none : mask_l (zip2 t a b) % 2 ^ 64 ≡ 0 = ap (λ ms. mask_l ms % 2 ^ 64) (sym (tops_compared w16 t a b))
    ∙ is_zero _ h in
    let few = rw (long_test a b long_a long_b t) at (mask_l-lt (zip2 t a b)) in
    let all : mask_l (zip2 t a b) ≡ 0 = omega (arith, none, few) in
    equal (get_or a i 0) (get_or b i 0)
    (ap (λ m. cond m 1 0) (sym (at_test a b long_a long_b t i lt)) ∙ sym (bit_mask_l (zip2 t a b) i)
    ∙ no_bit (mask_l (zip2 t a b)) (2 ^ i) all)

-- a mask is 0 if no test is true
no_mask : (ms : List Bool) → ((i : ℕ) → i < length ms → get_or ms i false ≡ false) → mask_l ms ≡ 0
no_mask [] none = refl
no_mask (m ∷ ms) none = rw (none 0 (omega arith), no_mask ms (λ i lt. none (suc i) (omega arith))) refl

not_other : (x y : ℕ) → x ≡ y → not (eqb x y) ≡ false
not_other x y e = grind (arith, nat_tests)

pub all_lanes : (a b : List ℕ) → length a ≡ 16 → length b ≡ 16 → EachLane (λ i. get_or a i 0 ≡ get_or b i 0)
    → IsTrue (eqb (mask_l (compared w16 (λ x y. not (eqb x y)) a b) % 2 ^ 64) 0)
all_lanes a b long_a long_b each =
    let t : ℕ → ℕ → Bool = (λ x y. not (eqb x y)) in
    let long = long_test a b long_a long_b t in
    let none : mask_l (zip2 t a b) ≡ 0 = no_mask (zip2 t a b) (λ i lt.
    let lane : i < 16 = omega (arith, long, lt) in
    at_test a b long_a long_b t i lane ∙ not_other (get_or a i 0) (get_or b i 0) (each i lane)) in
    ap (λ n. eqb (n % 2 ^ 64) 0) (ap mask_l (tops_compared w16 t a b) ∙ none)
