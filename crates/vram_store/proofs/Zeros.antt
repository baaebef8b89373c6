-- Rows of zeros, appended cell by cell.
use Rattle.std.proofs.Common.{◌≡◌, ◌≤◌, ◌+◌, ◌-◌, ◌++◌, List, [], ◌∷◌, ℕ, zero, suc, refl, ap, sym, ◌∙◌, append_assoc}
use Rattle.std.proofs.Common.{arith}
use Rattle.std.proofs.lemmas.List.{append-nil}
use Rattle.px_num.specs.Zeros.{zeros}

zeros-none : zeros 0 ≡ []
unfolding zeros
zeros-none = refl

zeros-suc : (n : ℕ) → zeros (suc n) ≡ 0 ∷ zeros n
unfolding zeros
zeros-suc n = refl

zeros-more : (n : ℕ) → zeros (suc n) ≡ zeros n ++ 0 ∷ []
zeros-more zero = zeros-suc zero ∙ rw zeros-none refl
zeros-more (suc n) = zeros-suc (suc n) ∙ ap (λ xs. 0 ∷ xs) (zeros-more n) ∙ ap (λ xs. xs ++ 0 ∷ []) (sym (zeros-suc n))

-- no cell is appended yet
pub none_behind : (m : List ℕ) (n : ℕ) → m ≡ m ++ zeros (n - n)
none_behind m n = let e : n - n ≡ 0 = omega arith in rw (e, zeros-none) (sym (append-nil m))

-- one more cell
pub one_behind : (m : List ℕ) (i n : ℕ) → n ≤ i → (m ++ zeros (i - n)) ++ 0 ∷ [] ≡ m ++ zeros (i + 1 - n)
one_behind m i n le =
    let e : i + 1 - n ≡ suc (i - n) = omega arith in
    rw (e, zeros-more) (append_assoc m (zeros (i - n)) (0 ∷ []))
