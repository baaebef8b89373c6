use Rattle.std.proofs.Common.{◌≡◌, ◌≤◌, ◌+◌, ◌++◌, ◌∙◌, ℕ, List, [], ◌∷◌, length, take, slice_set, ap, sym, refl, arith}
use Rattle.std.proofs.lemmas.Slice.{take-put_mid}
use Rattle.event_play.proofs.record_words.put_words.Goals as goal

first_set : (words : List ℕ) (first : ℕ) → 1 ≤ length words → take 1 (slice_set words 0 first) ≡ first ∷ []
first_set [] first some = absurd (omega (arith, some))
first_set (word ∷ words) first some = refl

still_some : (words : List ℕ) (first : ℕ) → 1 ≤ length words → 1 ≤ length (slice_set words 0 first)
still_some [] first some = absurd (omega (arith, some))
still_some (word ∷ words) first some = omega arith

pub returns-clause-words : goal.returns-clause-words
returns-clause-words c =
    let was : List ℕ = c.args.words.now in
    let more = c.copy_from_slice.new.self in
    let first = c.args.first in
    let some : 1 ≤ length was = omega (arith, c.told-words) in
    take-put_mid 1 _ (slice_set was 0 first) more (1 + length c.args.more.now)
    (ap (λ (xs : List ℕ). 1 + length xs) (sym c.copy_from_slice.ensures.after)) (still_some was first some)
    ∙ ap (λ xs. xs ++ more) (first_set was first some)
    ∙ ap (λ xs. first ∷ xs) c.copy_from_slice.ensures.after
