-- The effect of notes without an area on the numbers of counts and of a cover.
use Rattle.std.proofs.Common.{◌≡◌, ℕ, ◌+◌, ◌^◌, ◌<◌, ◌≤◌, nat_lt, true, List, [], ◌∷◌, length, refl, sym, ap, ◌∙◌}
use Rattle.std.proofs.Common.{arith}
use Rattle.std.proofs.Common.{slice_index, slice_set, length-set, get_or-set_same}
use Rattle.std.proofs.lemmas.List.{set-set, set-get_or}
use Rattle.std.proofs.lemmas.Bool.Decides.{nat_tests}
use Rattle.gpu_taps.specs.Bare.{bare_notes, after_notes}
use Rattle.gpu_taps.specs.Tally.{capped, counts_after, tally, reading_after}

one_counted : (numbers : List ℕ) (class : ℕ) → length numbers ≡ 10 → class < 10
    → counts_after numbers class ≡ slice_set numbers class (capped (slice_index numbers class + 1))
one_counted numbers class ten lt =
    let known : nat_lt class 10 ≡ true = grind (arith, nat_tests) in
    rw (ten, known) refl

-- all are counted at once
pub counted : (words numbers : List ℕ) (class first : ℕ) → length numbers ≡ 10 → class < 10
    → slice_index numbers class < 2 ^ 64
    → after_notes (bare_notes class first words) (record { kind = 0; numbers = numbers })
    ≡ record { kind = 0; numbers = slice_set numbers class (capped (slice_index numbers class + length words)) }
unfolding tally reading_after
counted [] numbers class first ten lt fits =
    let same : capped (slice_index numbers class + 0) ≡ slice_index numbers class = omega (arith, fits) in
    rw same (ap (λ l. record { kind = 0; numbers = l }) (sym (set-get_or numbers class 0)))
counted (word ∷ words) numbers class first ten lt fits =
    let now = slice_set numbers class (capped (slice_index numbers class + 1)) in
    let one = one_counted numbers class ten lt in
    let here : slice_index now class ≡ capped (slice_index numbers class + 1) =
    get_or-set_same numbers class (capped (slice_index numbers class + 1)) 0 (omega (arith, ten, lt)) in
    let rest = counted words now class (first + 1) (length-set _ _ _ ∙ ten) lt (omega (arith, here)) in
    let sum : capped (slice_index now class + length words)
    ≡ capped (slice_index numbers class + length (word ∷ words)) =
    omega (arith, here) in
    ap (λ l. after_notes (bare_notes class (first + 1) words) (record { kind = 0; numbers = l })) one
    ∙ rest
    ∙ ap (λ n. record { kind = 0; numbers = slice_set now class n }) sum
    ∙ ap (λ l. record { kind = 0; numbers = l }) (set-set numbers class _ _)

-- none of a class above 9 is counted
pub uncounted : (words numbers : List ℕ) (class first : ℕ) → 10 ≤ class
    → after_notes (bare_notes class first words) (record { kind = 0; numbers = numbers })
    ≡ record { kind = 0; numbers = numbers }
unfolding tally reading_after
uncounted [] numbers class first past = refl
uncounted (word ∷ words) numbers class first past =
    let none : counts_after numbers class ≡ numbers = grind (arith, nat_tests) in
    ap (λ l. after_notes (bare_notes class (first + 1) words) (record { kind = 0; numbers = l })) none
    ∙ uncounted words numbers class (first + 1) past

-- none changes a cover
pub uncovered : (words numbers : List ℕ) (class first : ℕ)
    → after_notes (bare_notes class first words) (record { kind = 2; numbers = numbers })
    ≡ record { kind = 2; numbers = numbers }
unfolding tally reading_after
uncovered [] numbers class first = refl
uncovered (word ∷ words) numbers class first = uncovered words numbers class (first + 1)
