-- A line for each tap of a list.
use Rattle.std.proofs.Common.{◌≡◌, ◌≤◌, ◌<◌, ◌+◌, ◌++◌, ℕ, zero, suc, List, [], ◌∷◌, length, drop, get_or, map}
use Rattle.std.proofs.Common.{flat_map, arith, refl, ap}
use Rattle.std.proofs.lemmas.List.{drop_all, length-map}

-- the next line
pub lines_next : {A B : Type 0} (f : B → List ℕ) (h : A → B) (xs : List A) (i : ℕ) (x : A) → i < length xs
    → x ≡ get_or xs i x
    → flat_map f (drop i (map h xs)) ≡ f (h x) ++ flat_map f (drop (i + 1) (map h xs))
lines_next f h [] i x lt is = absurd (omega (arith, lt))
lines_next f h (y ∷ xs) zero x lt is = rw is refl
lines_next f h (y ∷ xs) (suc i) x lt is =
    let e : suc i + 1 ≡ suc (i + 1) = omega arith in rw e (lines_next f h xs i x (omega (arith, lt)) is)

-- no line is left
pub lines_end : {A B : Type 0} (f : B → List ℕ) (h : A → B) (xs : List A) (i : ℕ) → length xs ≤ i
    → flat_map f (drop i (map h xs)) ≡ []
lines_end f h xs i le = ap (flat_map f) (drop_all i (map h xs) (let l = length-map xs h in omega (arith, l, le)))
