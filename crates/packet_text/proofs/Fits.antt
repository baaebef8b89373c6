-- The length of pieces that are joined.
use Rattle.std.proofs.Common.{◌≡◌, ◌≤◌, ◌<◌, ◌+◌, ◌++◌, ℕ, List, ◌∷◌, length, take, drop, flat_map, ap, sym, ◌∙◌, arith}
use Rattle.std.proofs.Common.{get_or, length-append}
use Rattle.std.proofs.lemmas.Grind.{flat_map-append}
use Rattle.std.proofs.lemmas.List.{drop_more, take-append-drop}

-- if all pieces fit, so do the first ones and the next one
pub next_fits : {X : Type 0} (f : X → List ℕ) (xs : List X) (i : ℕ) (d : X) (text : List ℕ) (most : ℕ)
    → i < length xs → text ≡ flat_map f (take i xs) → length (flat_map f xs) ≤ most
    → length text + length (f (get_or xs i d)) ≤ most
next_fits f xs i d text most lt is fits =
    let x = get_or xs i d in
    let first = flat_map f (take i xs) in
    let rest = flat_map f (drop (i + 1) xs) in
    let all : flat_map f xs ≡ first ++ (f x ++ rest) =
    ap (flat_map f) (sym (take-append-drop i xs) ∙ ap (λ ys. take i xs ++ ys) (drop_more xs i d lt))
    ∙ flat_map-append f (take i xs) (x ∷ drop (i + 1) xs) in
    let long = ap length all ∙ length-append first (f x ++ rest) in
    let after = length-append (f x) rest in
    let same = ap length is in
    omega (arith, long, after, same, fits)
