-- The last element of a list.
use Rattle.std.proofs.Common.{◌≡◌, ◌≤◌, ◌-◌, ◌+◌, ◌∙◌, List, [], ◌∷◌, ◌++◌, length, take, get_or, arith, refl}
use Rattle.std.proofs.Common.{ap}
use Rattle.std.proofs.Common.{length-append, sym}
use Rattle.std.proofs.lemmas.List.{take_more, take_all}

-- what comes before the last element, and this element
pub last_apart : {A : Type 0} (xs : List A) (x : A) → 1 ≤ length xs → x ≡ get_or xs (length xs - 1) x →
    xs ≡ take (length xs - 1) xs ++ x ∷ []
last_apart xs x some is =
    let more = take_more xs (length xs - 1) x (omega arith) in
    let whole : length xs - 1 + 1 ≡ length xs = omega arith in
    sym (take_all (length xs) xs (omega arith)) ∙ ap (λ n. take n xs) (sym whole) ∙ more
    ∙ ap (λ y. take (length xs - 1) xs ++ y ∷ []) (sym is)

-- two lists with a last element each are the same only if both parts are
pub same_parts : {A : Type 0} (xs ys : List A) (x y : A) → xs ++ x ∷ [] ≡ ys ++ y ∷ [] → (xs ≡ ys) × (x ≡ y)
same_parts [] [] x y e = (refl, cc)
same_parts [] (b ∷ bs) x y e = absurd (omega (arith, length-append bs (y ∷ []), ap length e))
same_parts (a ∷ rest) [] x y e = absurd (omega (arith, length-append rest (x ∷ []), ap length e))
same_parts (a ∷ rest) (b ∷ others) x y e =
    let later : rest ++ x ∷ [] ≡ others ++ y ∷ [] = cc in
    let first : a ≡ b = cc in
    let parts = same_parts rest others x y later in
    (cc (parts.0, first), parts.1)
