-- The notes that a trace records of many words at once.
use Rattle.std.proofs.Common.{◌≡◌, ℕ, zero, suc, ◌+◌, ◌-◌, ◌<◌, ◌≤◌, List, [], ◌∷◌, ◌++◌, length, take, drop, map}
use Rattle.std.proofs.Common.{get_or, refl, sym, ap, ◌∙◌, inl, inr, arith, append_assoc, append-nil}
use Rattle.std.proofs.Common.{length-append, length-drop}
use Rattle.std.proofs.lemmas.Bool.{cases_lt}
use Rattle.std.proofs.lemmas.List.{drop-append-le, drop-drop, take_more, length-take-le, map_push, length-map}
use Rattle.std.proofs.Math.Seq.{drop-append_seam, drop-append-add}
use Rattle.circular_buffer.specs.Buffer.{keep_last}
use Rattle.gp0_packets.specs.declared.note.Note.{Note}
use Rattle.gpu_taps.specs.Bare.{bare_note, bare_notes, after_notes}
use Rattle.gpu_taps.specs.Tally.{capped, noted_of, trace_numbers, tally, reading_after}
use Rattle.gpu_taps.specs.declared.noted.Noted.{Noted}
use Rattle.gpu_taps.proofs.Bare.{bare_notes-push}
use Rattle.gpu_taps.proofs.Numbers.{trace_after-is}

-- only the last items of a list matter if more are appended
pub keep_last-append : {X : Type 0} (n : ℕ) (xs ys : List X) → keep_last n (keep_last n xs ++ ys)
    ≡ keep_last n (xs ++ ys)
keep_last-append n xs ys =
    let gone = length xs - n in
    let left = length-drop gone xs in
    let long = length-append (drop gone xs) ys in
    let all = length-append xs ys in
    let e : gone + (length (drop gone xs ++ ys) - n) ≡ length (xs ++ ys) - n = omega (arith, left, long, all) in
    ap (drop (length (drop gone xs ++ ys) - n)) (sym (drop-append-le gone xs ys (omega arith)))
    ∙ drop-drop (length (drop gone xs ++ ys) - n) gone (xs ++ ys)
    ∙ ap (λ k. drop k (xs ++ ys)) e

pub length-keep_last : {X : Type 0} (n : ℕ) (xs : List X) → length (keep_last n xs) ≤ n
length-keep_last n xs = omega (arith, length-drop (length xs - n) xs)

pub keep_last-few : {X : Type 0} (n : ℕ) (xs : List X) → length xs ≤ n → keep_last n xs ≡ xs
keep_last-few n xs few = let none : length xs - n ≡ zero = omega arith in rw none refl

-- the numbers of a trace after notes are those of the last of them
pub trace_after_notes : (notes : List Note) (kept : List Noted) → length kept ≤ 64
    → after_notes notes (record { kind = 1; numbers = trace_numbers kept })
    ≡ record { kind = 1; numbers = trace_numbers (keep_last 64 (kept ++ map noted_of notes)) }
unfolding tally reading_after
trace_after_notes [] kept few =
    ap (λ l. record { kind = 1; numbers = trace_numbers l })
    (sym (ap (keep_last 64) (append-nil kept) ∙ keep_last-few 64 kept few))
trace_after_notes (note ∷ notes) kept few =
    let now = keep_last 64 (kept ++ noted_of note ∷ []) in
    let one = trace_after-is kept note 64 refl few in
    ap (λ l. after_notes notes (record { kind = 1; numbers = l })) (sym one)
    ∙ trace_after_notes notes now (length-keep_last 64 (kept ++ noted_of note ∷ []))
    ∙ ap (λ l. record { kind = 1; numbers = trace_numbers l })
    (keep_last-append 64 (kept ++ noted_of note ∷ []) (map noted_of notes)
    ∙ ap (keep_last 64) (append_assoc kept (noted_of note ∷ []) (map noted_of notes)))

-- one more word
pub words_kept : (class first : ℕ) (words : List ℕ) (i : ℕ) (kept : List Noted) → i < length words
    → keep_last 64 (keep_last 64 (kept ++ map noted_of (bare_notes class first (take i words)))
    ++ noted_of (bare_note class (capped (first + i)) (get_or words i 0)) ∷ [])
    ≡ keep_last 64 (kept ++ map noted_of (bare_notes class first (take (i + 1) words)))
words_kept class first words i kept lt =
    let before = map noted_of (bare_notes class first (take i words)) in
    let one = noted_of (bare_note class (capped (first + i)) (get_or words i 0)) in
    let long : length (take i words) ≡ i = length-take-le i words (omega (arith, lt)) in
    let notes : bare_notes class first (take (i + 1) words)
    ≡ bare_notes class first (take i words) ++ bare_note class (capped (first + i)) (get_or words i 0) ∷ [] =
    ap (bare_notes class first) (take_more words i 0 lt)
    ∙ bare_notes-push class first (take i words) (get_or words i 0)
    ∙ ap (λ n. bare_notes class first (take i words) ++ bare_note class (capped (first + n)) (get_or words i 0) ∷ [])
    long in
    keep_last-append 64 (kept ++ before) (one ∷ [])
    ∙ ap (keep_last 64) (append_assoc kept before (one ∷ [])
    ∙ ap (λ l. kept ++ l) (sym (ap (map noted_of) notes ∙ map_push noted_of (bare_notes class first (take i words)) _)))

-- ---- the first of more words than are recorded

bare_notes-length : (class first : ℕ) (words : List ℕ) → length (bare_notes class first words) ≡ length words
bare_notes-length class first [] = refl
bare_notes-length class first (word ∷ words) = ap suc (bare_notes-length class (first + 1) words)

same_numbers : (class a b : ℕ) (words : List ℕ) → capped a ≡ capped b → bare_notes class a words
    ≡ bare_notes class b words
same_numbers class a b [] e = refl
same_numbers class a b (word ∷ words) e =
    let next = same_numbers class (a + 1) (b + 1) words (omega (arith, e)) in
    ap (λ n. bare_note class n word ∷ bare_notes class (a + 1) words) e
    ∙ ap (λ notes. bare_note class (capped b) word ∷ notes) next

drop-noted : (class first gone : ℕ) (words : List ℕ)
    → drop gone (map noted_of (bare_notes class first words))
    ≡ map noted_of (bare_notes class (first + gone) (drop gone words))
drop-noted class first zero words =
    let e : first + zero ≡ first = omega arith in rw e refl
drop-noted class first (suc gone) [] = refl
drop-noted class first (suc gone) (word ∷ words) =
    let e : first + 1 + gone ≡ first + suc gone = omega arith in
    rw (← e) (drop-noted class (first + 1) gone words)

pub last_kept : (class played : ℕ) (words : List ℕ) (kept : List Noted) → length kept ≤ 64
    → keep_last 64
    (kept ++ map noted_of
    (bare_notes class (capped (played + (length words - 64)) + 1) (drop (length words - 64) words)))
    ≡ keep_last 64 (kept ++ map noted_of (bare_notes class (played + 1) words))
last_kept class played words kept few =
    let gone = length words - 64 in
    let all = map noted_of (bare_notes class (played + 1) words) in
    let long : length all ≡ length words =
    length-map (bare_notes class (played + 1) words) noted_of ∙ bare_notes-length class (played + 1) words in
    let number : capped (capped (played + gone) + 1) ≡ capped (played + 1 + gone) = omega arith in
    let rest : map noted_of (bare_notes class (capped (played + gone) + 1) (drop gone words)) ≡ drop gone all =
    ap (map noted_of) (same_numbers class _ _ (drop gone words) number)
    ∙ sym (drop-noted class (played + 1) gone words) in
    ap (λ l. keep_last 64 (kept ++ l)) rest ∙ at_end all gone (ap (λ n. n - 64) long)
  where
    at_end : (all : List Noted) (gone : ℕ) → length all - 64 ≡ gone → keep_last 64 (kept ++ drop gone all)
        ≡ keep_last 64 (kept ++ all)
    at_end all gone e = elim (cases_lt 64 (length all)) [
      | inl more ↦
          let left : length (drop gone all) ≡ 64 = omega (arith, length-drop gone all) in
          let from : length (kept ++ drop gone all) - 64
          ≡ length kept = omega (arith, left, length-append kept (drop gone all)) in
          let all_from : length (kept ++ all) - 64 ≡ length kept + gone = omega (arith, length-append kept all) in
          ap (λ n. drop n (kept ++ drop gone all)) from ∙ drop-append_seam kept (drop gone all)
          ∙ sym (ap (λ n. drop n (kept ++ all)) all_from ∙ drop-append-add kept all gone)
      | inr all_fit ↦ let none : gone ≡ zero = omega arith in rw none refl
    ]
