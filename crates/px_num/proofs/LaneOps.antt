-- The result of a vector operation in one lane.
use Rattle.std.proofs.Common.{◌≡◌, ℕ, suc, ◌+◌, ◌-◌, ◌%◌, ◌^◌, ◌<◌, min, List, [], ◌∷◌, Bool, false, cond, ltb, length}
use Rattle.std.proofs.Common.{get_or, replicate, map, Fits, w16, refl, ap, ◌∙◌, arith}
use Rattle.std.specs.Int.{Width}
use Rattle.std.proofs.lemmas.Bool.Decides.{nat_tests}
use lib.Lanes.{zip2, Each1, Each2, sel_l, top}
use mir.Val.{hbits, bits}
use Rattle.std.proofs.lemmas.Simd.{get_or-zip2, length-zip2, get_or-replicate, Each1-get_or, length-sel_l, get_or-sel_l}
use Rattle.std.proofs.lemmas.Simd.{tops_compared}

-- the lane by lane results of a comparison of two vectors
abbrev pub compared : Width → (ℕ → ℕ → Bool) → List ℕ → List ℕ → List Bool
compared w t a b = map (top (hbits w)) (zip2 (λ x y. cond (t x y) (2 ^ bits w - 1) 0) a b)

pub each2 : (R : ℕ → ℕ → Type 0) (xs ys : List ℕ) → length xs ≡ length ys
    → ((i : ℕ) → i < length xs → R (get_or xs i 0) (get_or ys i 0)) → Each2 R xs ys
each2 R [] ys e f = tt
each2 R (x ∷ xs) [] e f = absurd (omega arith)
each2 R (x ∷ xs) (y ∷ ys) e f = (f 0 (omega arith), each2 R xs ys (omega arith) (λ i lt. f (suc i) (omega arith)))

-- a choice between two vectors
module _ (ms : List Bool) (first others : List ℕ) (long_m : length ms ≡ 16) (long_first : length first ≡ 16)
    (long_others : length others ≡ 16) where
  pub long_choice : length (sel_l ms first others) ≡ 16
  long_choice = length-sel_l ms first others (omega arith) (omega arith) ∙ long_m

  pub at_choice : (i : ℕ) → i < 16 → get_or (sel_l ms first others) i 0
      ≡ cond (get_or ms i false) (get_or first i 0) (get_or others i 0)
  at_choice i lt = get_or-sel_l ms first others i 0 (omega arith) (omega arith) (omega arith)

module _ (a b : List ℕ) (long_a : length a ≡ 16) (long_b : length b ≡ 16) where
  pub long_zip : (f : ℕ → ℕ → ℕ) → length (zip2 f a b) ≡ 16
  long_zip f = length-zip2 f a b (omega arith) ∙ long_a

  pub at_zip : (f : ℕ → ℕ → ℕ) (i : ℕ) → i < 16 → get_or (zip2 f a b) i 0 ≡ f (get_or a i 0) (get_or b i 0)
  at_zip f i lt = get_or-zip2 f a b i 0 0 0 (omega arith) (omega arith)

  pub long_test : (t : ℕ → ℕ → Bool) → length (zip2 t a b) ≡ 16
  long_test t = length-zip2 t a b (omega arith) ∙ long_a

  pub at_test : (t : ℕ → ℕ → Bool) (i : ℕ) → i < 16 → get_or (zip2 t a b) i false ≡ t (get_or a i 0) (get_or b i 0)
  at_test t i lt = get_or-zip2 t a b i 0 0 false (omega arith) (omega arith)

  -- a choice by a comparison of two vectors
  module _ (t : ℕ → ℕ → Bool) (first others : List ℕ) (long_first : length first ≡ 16)
      (long_others : length others ≡ 16) where
    pub long_select : length (sel_l (zip2 t a b) first others) ≡ 16
    long_select = long_choice (zip2 t a b) first others (long_test t) long_first long_others

    pub at_select : (i : ℕ) → i < 16 → get_or (sel_l (zip2 t a b) first others) i 0
        ≡ cond (t (get_or a i 0) (get_or b i 0)) (get_or first i 0) (get_or others i 0)
    at_select i lt = at_choice (zip2 t a b) first others (long_test t) long_first long_others i lt
        ∙ ap (λ m. cond m (get_or first i 0) (get_or others i 0)) (at_test t i lt)

    -- the same with the comparison's bits, as the machine does it
    pub long_where : (w : Width) → length (sel_l (compared w t a b) first others) ≡ 16
    long_where w = ap (λ ms. length (sel_l ms first others)) (tops_compared w t a b) ∙ long_select

    pub at_where : (w : Width) (i : ℕ) → i < 16 → get_or (sel_l (compared w t a b) first others) i 0
        ≡ cond (t (get_or a i 0) (get_or b i 0)) (get_or first i 0) (get_or others i 0)
    at_where w i lt = ap (λ ms. get_or (sel_l ms first others) i 0) (tops_compared w t a b) ∙ at_select i lt

pub long_splat : (f : ℕ → ℕ → ℕ) (a : List ℕ) (n : ℕ) → length a ≡ 16 → length (zip2 f a (replicate 16 n)) ≡ 16
long_splat f a n long = long_zip a (replicate 16 n) long refl f

pub at_splat : (f : ℕ → ℕ → ℕ) (a : List ℕ) (n : ℕ) → length a ≡ 16 → (i : ℕ) → i < 16
    → get_or (zip2 f a (replicate 16 n)) i 0 ≡ f (get_or a i 0) n
at_splat f a n long i lt = at_zip a (replicate 16 n) long refl f i lt
    ∙ ap (f (get_or a i 0)) (get_or-replicate 16 i n 0 lt)

pub smaller_is : (m n : ℕ) → cond (ltb m n) m n ≡ min m n
smaller_is m n = grind (arith, nat_tests)

-- the larger of two numbers minus the second, as the machine subtracts with saturation
pub sub_saturated : (m n : ℕ) → m < 2 ^ 16 → n < 2 ^ 16 → (cond (ltb m n) n m + (2 ^ 16 - n)) % 2 ^ 16 ≡ m - n
sub_saturated m n a b = grind (arith, nat_tests)

pub below_word : (a : List ℕ) (i : ℕ) → length a ≡ 16 → i < 16 → Each1 (Fits w16) a → get_or a i 0 < 2 ^ 16
below_word a i long lt fits = (Each1-get_or (Fits w16) a i 0 (omega arith) fits).fits
