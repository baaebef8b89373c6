-- Folds over steps that are numbered from 0.
use Rattle.std.proofs.Common.{◌≡◌, ◌+◌, ◌<◌, ℕ, zero, suc, refl, ap, arith, add-one, ◌∙◌}
use Rattle.px_num.specs.Fold.{each_below}

-- one more step
pub each_below-next : {A : Type 0} (step : ℕ → A → A) (n : ℕ) (a : A) → each_below step (n + 1) a
    ≡ step n (each_below step n a)
each_below-next step n a = rw (add-one n) refl

-- the first n steps, followed by those from n on
pub each_below-add : {A : Type 0} (step : ℕ → A → A) (n k : ℕ) (a : A) → each_below step (n + k) a
    ≡ each_below (λ i. step (n + i)) k (each_below step n a)
each_below-add step n zero a = let e : n + zero ≡ n = omega arith in rw e refl
each_below-add step n (suc k) a = let e : n + suc k ≡ suc (n + k) = omega arith in
    rw e (ap (step (n + k)) (each_below-add step n k a))

-- steps with equal results
pub each_below-same : {A : Type 0} (f g : ℕ → A → A) (n : ℕ) (a : A) → ((i : ℕ) (x : A) → i < n → f i x ≡ g i x)
    → each_below f n a ≡ each_below g n a
each_below-same f g zero a same = refl
each_below-same f g (suc n) a same =
    same n (each_below f n a) (omega arith)
    ∙ ap (g n) (each_below-same f g n a (λ i x lt. same i x (omega (arith, lt))))
