-- The numbers of a list of notes.
use Rattle.std.proofs.Common.{◌≡◌, ℕ, suc, zero, ◌+◌, ◌-◌, ◌*◌, ◌/◌, ◌%◌, ◌<◌, ◌≤◌, List, [], ◌∷◌, ◌++◌, Some, None}
use Rattle.std.proofs.Common.{length, slice_get, slice_index, refl, sym, ap, arith, inl, inr}
use Rattle.std.proofs.lemmas.Bool.Decides.{nat_tests}
use Rattle.std.proofs.lemmas.Bool.{cases_lt, cases_order}
use Rattle.std.proofs.lemmas.Option.{slice_get_cases}
use Rattle.std.proofs.lemmas.List.{length_push}
use Rattle.gpu_taps.specs.Tally.{noted_of, trace_numbers, trace_after, note_number}
use Rattle.gp0_packets.specs.declared.note.Note.{Note}
use Rattle.gpu_taps.specs.declared.noted.Noted.{Noted}
use Rattle.circular_buffer.specs.Buffer.{keep_last}

pub length-trace_numbers : (notes : List Noted) → length (trace_numbers notes) ≡ 3 * length notes
length-trace_numbers [] = refl
length-trace_numbers (n ∷ ns) = omega (arith, length-trace_numbers ns)

pub trace_numbers-push : (notes : List Noted) (n : Noted) → trace_numbers (notes ++ n ∷ [])
    ≡ trace_numbers notes ++ n.event ∷ n.class ∷ n.head ∷ []
trace_numbers-push [] n = refl
trace_numbers-push (m ∷ ms) n = ap (λ l. m.event ∷ m.class ∷ m.head ∷ l) (trace_numbers-push ms n)

pub at_note : (notes : List Noted) (k : ℕ) (n : Noted) → slice_get notes k ≡ Some n →
    (slice_index (trace_numbers notes) (3 * k) ≡ n.event) × (slice_index (trace_numbers notes) (3 * k + 1) ≡ n.class)
    × (slice_index (trace_numbers notes) (3 * k + 2) ≡ n.head)
at_note [] k n e = absurd cc
at_note (m ∷ ms) zero n e = let same : m
    ≡ n = cc in (ap (λ x. x.event) same, ap (λ x. x.class) same, ap (λ x. x.head) same)
at_note (m ∷ ms) (suc k) n e =
    let three : 3 * suc k ≡ suc (suc (suc (3 * k))) = omega arith in
    let rest = at_note ms k n e in
    let class_at : 3 * suc k + 1 ≡ suc (suc (suc (3 * k + 1))) = omega arith in
    let head_at : 3 * suc k + 2 ≡ suc (suc (suc (3 * k + 2))) = omega arith in
    (rw three rest.0, rw class_at rest.1, rw head_at rest.2)

keep_full : (notes : List Noted) (n : Note) → length notes ≡ 64 →
    trace_numbers (keep_last 64 (notes ++ noted_of n ∷ [])) ≡ trace_after (trace_numbers notes) n
keep_full [] n e = absurd (omega arith)
keep_full (m ∷ ms) n e =
    let one : suc (length (ms ++ noted_of n ∷ [])) - 64 ≡ 1 = omega (arith, length_push ms (noted_of n)) in
    let len = length-trace_numbers ms in
    rw (one, trace_numbers-push ms (noted_of n)) (grind (arith, nat_tests, len))

pub trace_after-is : (notes : List Noted) (n : Note) (capacity : ℕ) → capacity ≡ 64 → length notes ≤ 64 →
    trace_numbers (keep_last capacity (notes ++ noted_of n ∷ [])) ≡ trace_after (trace_numbers notes) n
trace_after-is notes n capacity size fits =
    rw size (elim (cases_lt (length notes) 64) [
      | inl fewer ↦
          let none : length (notes ++ noted_of n ∷ []) - 64 ≡ 0 = omega (arith, length_push notes (noted_of n)) in
          let len = length-trace_numbers notes in
          rw (none, trace_numbers-push notes (noted_of n)) (grind (arith, nat_tests, len))
      | inr full ↦ keep_full notes n (omega arith)
    ])

-- number i, by its note and its index in the note
pub number_at : (notes : List Noted) (i : ℕ) (n : Noted) → slice_get notes (i / 3) ≡ Some n →
    note_number n (i % 3) ≡ slice_index (trace_numbers notes) i
number_at notes i n e =
    let at = at_note notes (i / 3) n e in
    let numbers = trace_numbers notes in
    elim (cases_order (i % 3) 1) [
      | inl one ↦
          let here : 3 * (i / 3) + 1 ≡ i = omega arith in
          rw one (sym (rw here at at.1))
      | inr other ↦ elim other [
        | inl below ↦
            let here : 3 * (i / 3) ≡ i = omega arith in
            let none : i % 3 ≡ 0 = omega arith in
            rw none (sym (rw here at at.0))
        | inr above ↦
            let here : 3 * (i / 3) + 2 ≡ i = omega arith in
            let two : i % 3 ≡ 2 = omega arith in
            rw two (sym (rw here at at.2))
      ]
    ]

pub has_note : (notes : List Noted) (i : ℕ) → i < length (trace_numbers notes) → None ≡ slice_get notes (i / 3) → ⊥
has_note notes i within none =
    let there : i / 3 < length notes = omega (arith, length-trace_numbers notes) in
    elim (slice_get_cases notes (i / 3)).1 [ inl found ↦ let e = found.2 in cc | inr past ↦ omega (arith, past.0) ]
