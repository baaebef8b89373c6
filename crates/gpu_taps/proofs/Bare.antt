-- Notes without an area, and one more.
use Rattle.std.proofs.Common.{◌≡◌, ℕ, suc, ◌+◌, ◌<◌, List, [], ◌∷◌, ◌++◌, length, take, get_or, refl, add-zero, ap, ◌∙◌}
use Rattle.std.proofs.Common.{arith}
use Rattle.std.proofs.lemmas.List.{take_more, length-take-le}
use Rattle.std.proofs.lemmas.List.Sums.{fold-append}
use Rattle.gpu_taps.specs.Bare.{bare_note, bare_notes, after_notes}
use Rattle.gpu_taps.specs.Tally.{Reading, capped, reading_after}

pub bare_notes-push : (class first : ℕ) (words : List ℕ) (word : ℕ)
    → bare_notes class first (words ++ word ∷ []) ≡ bare_notes class first words ++ bare_note class
    (capped (first + length words)) word ∷ []
bare_notes-push class first [] word = rw (add-zero first) refl
bare_notes-push class first (x ∷ words) word =
    let e : first + 1 + length words ≡ first + suc (length words) = omega arith in
    rw (← e) (ap (λ notes. bare_note class (capped first) x ∷ notes) (bare_notes-push class (first + 1) words word))

pub bare_more : (class first : ℕ) (words : List ℕ) (i : ℕ) (reading : Reading) → i < length words
    → after_notes (bare_notes class first (take (i + 1) words)) reading
    ≡ reading_after (bare_note class (capped (first + i)) (get_or words i 0))
    (after_notes (bare_notes class first (take i words)) reading)
bare_more class first words i reading lt =
    let long : length (take i words) ≡ i = length-take-le i words (omega (arith, lt)) in
    let notes = bare_notes-push class first (take i words) (get_or words i 0) in
    let all : bare_notes class first (take (i + 1) words)
    ≡ bare_notes class first (take i words) ++ bare_note class (capped (first + i)) (get_or words i 0) ∷ [] =
    ap (bare_notes class first) (take_more words i 0 lt) ∙ notes
    ∙ ap (λ n. bare_notes class first (take i words) ++ bare_note class (capped (first + n)) (get_or words i 0) ∷ [])
    long in
    ap (λ notes. after_notes notes reading) all
    ∙ fold-append (λ reading note. reading_after note reading) reading (bare_notes class first (take i words)) (_ ∷ [])
