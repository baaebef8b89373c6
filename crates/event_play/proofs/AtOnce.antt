-- Words that are played as one block, one event per word.
use Rattle.std.proofs.Common.{◌≡◌, ◌<◌, ℕ, ◌+◌, ◌^◌, ◌++◌, List, [], ◌∷◌, Ok, option_to_list, map, fold, length}
use Rattle.std.proofs.Common.{◌≤◌, ◌-◌, take, drop, length-drop, refl, ap, sym, ◌∙◌, append_assoc, append-nil}
use Rattle.std.proofs.Common.{add-zero, subst, arith}
use Rattle.std.proofs.Math.Seq.{take-add}
use Rattle.std.proofs.lemmas.List.{length-take-le, take_all, take-append-drop}
use Rattle.std.proofs.lemmas.List.Sums.{fold-append}
use Rattle.gp0_packets.specs.declared.note.Note.{Note}
use Rattle.gpu_capture.specs.declared.event.Event.TheVariants.{Gp0}
use Rattle.gpu_core.specs.Cost.{gp0_cost, gp0_box_cost}
use Rattle.gpu_core.specs.Kept.{Kept, kept_of}
use Rattle.gpu_core.specs.Feeds.{TakesWords, feed_notes, feeds_cost}
use Rattle.gpu_core.specs.Machine.{State, after_gp0, gp0_note}
use Rattle.gpu_taps.specs.Bare.{after_notes}
use Rattle.gpu_taps.specs.Tally.{Reading, capped, reading_after}
use Rattle.event_play.specs.PlayedWords.{after_word, after_words, IsTold, number_after}
use Rattle.event_play.specs.Replay.{Replay, after_event, next_number}
use Rattle.event_play.specs.Step.{event_step, event_cost, event_box_cost}
use Rattle.event_play.specs.Streams.{Outlets}
use Rattle.event_play.specs.Told.{told_notes}
use Rattle.event_play.proofs.Feeds.{told-append}

-- ---- the replay after them

pub after_words-append : (t : Replay) (xs ys : List ℕ) → after_words t (xs ++ ys) ≡ after_words (after_words t xs) ys
after_words-append t xs ys = fold-append after_word t xs ys

-- the first `at` words, and then `count` of those after them
pub taken_both : (words : List ℕ) (at count : ℕ) → at ≤ length words
    → take at words ++ take count (take (length words - at) (drop at words)) ≡ take (at + count) words
taken_both words at count le =
    let long = length-drop at words in
    let all : take (length words - at) (drop at words) ≡ drop at words =
    take_all (length words - at) (drop at words) (omega (arith, long)) in
    ap (λ xs. take at words ++ take count xs) all ∙ sym (take-add at count words)

pub rest_both : (words : List ℕ) (at : ℕ) → at ≤ length words
    → take at words ++ take (length words - at) (drop at words) ≡ words
rest_both words at le =
    let long = length-drop at words in
    let all : take (length words - at) (drop at words) ≡ drop at words =
    take_all (length words - at) (drop at words) (omega (arith, long)) in
    ap (λ xs. take at words ++ xs) all ∙ take-append-drop at words

-- The event of a word has no fault and leads to the replay with that word.
pub word_is : (t : Replay) (word : ℕ) → after_event t (Gp0 word) ≡ Ok (after_word t word)
unfolding event_step event_cost event_box_cost
word_is t word =
    let n = next_number t.played in
    let note = option_to_list (gp0_note t.state.gpu n word) in
    rw (
      append-nil t.shown,
      append-nil t.frames,
      append-nil note,
      add-zero (gp0_cost t.state.gpu word),
      add-zero
          (gp0_box_cost t.state.gpu word),
    )
    refl

state_is : (t : Replay) (words : List ℕ) → (after_words t words).state.gpu ≡ fold after_gp0 t.state.gpu words
state_is t [] = refl
state_is t (word ∷ words) = state_is (after_word t word) words

cost_is : (t : Replay) (words : List ℕ) → (after_words t words).cost ≡ t.cost + feeds_cost t.state.gpu words
cost_is t [] = omega arith
cost_is t (word ∷ words) = let e = cost_is (after_word t word) words in omega (arith, e)

number_is : (t : Replay) (words : List ℕ) → t.played < 2 ^ 64
    → (after_words t words).played ≡ number_after t.played (length words)
number_is t [] lt = omega (arith, lt)
number_is t (word ∷ words) lt = let e = number_is (after_word t word) words (omega arith) in omega (arith, e)

-- Numbers that are equal up to the limit of 2^64 - 1 give the same notes.
pub same_numbers : (s : State) (a b : ℕ) (words : List ℕ) → capped a ≡ capped b → feed_notes s a words
    ≡ feed_notes s b words
same_numbers s a b [] e = refl
same_numbers s a b (word ∷ words) e =
    let next = same_numbers (after_gp0 s word) (a + 1) (b + 1) words (omega (arith, e)) in
    ap (λ n. option_to_list (gp0_note s n word) ++ feed_notes (after_gp0 s word) (a + 1) words) e
    ∙ ap (λ notes. option_to_list (gp0_note s (capped b) word) ++ notes) next

notes_are : (t : Replay) (words : List ℕ) → (after_words t words).notes ≡ t.notes ++ feed_notes t.state.gpu
    (t.played + 1) words
notes_are t [] = sym (append-nil t.notes)
notes_are t (word ∷ words) =
    let n = next_number t.played in
    let note = option_to_list (gp0_note t.state.gpu n word) in
    notes_are (after_word t word) words
    ∙ append_assoc t.notes note (feed_notes (after_gp0 t.state.gpu word) (n + 1) words)
    ∙ ap (λ notes. t.notes ++ (note ++ notes))
    (same_numbers (after_gp0 t.state.gpu word) (n + 1) (t.played + 1 + 1) words (omega arith))

-- The taps record the same if each tap receives all notes, or each note goes to all taps.
told_each : (notes : List Note) (readings : List Reading) → map (after_notes notes) readings ≡ told_notes notes readings
told_each notes [] = none notes
  where
    none : (notes : List Note) → [] ≡ told_notes notes []
    none [] = refl
    none (note ∷ notes) = none notes
told_each notes (reading ∷ readings) =
    ap (λ more. after_notes notes reading ∷ more) (told_each notes readings) ∙ more notes reading readings
  where
    more : (notes : List Note) (reading : Reading) (readings : List Reading)
        → after_notes notes reading ∷ told_notes notes readings ≡ told_notes notes (reading ∷ readings)
    more [] reading readings = refl
    more (note ∷ notes) reading readings = more notes (reading_after note reading) (map (reading_after note) readings)

pub words_told : (t : Replay) (first before now : Outlets) (was gpu : Kept) (played : ℕ) (words : List ℕ)
    → played < 2 ^ 64
    → IsTold t first before was played
    → ((s : State) → kept_of s ≡ was
    → TakesWords s (played + 1) words (record { heard = before.heard; steps = before.steps })
    (record { gpu = gpu; heard = now.heard; steps = now.steps }))
    → IsTold (after_words t words) first now gpu (number_after played (length words))
words_told t first before now was gpu played words lt told takes =
    let did = takes t.state.gpu told.state in
    let number = told.number in
    let notes = feed_notes t.state.gpu (played + 1) words in
    let same : feed_notes t.state.gpu (t.played + 1) words
    ≡ notes = ap (λ n. feed_notes t.state.gpu (n + 1) words) number in
    record {
      state = ap kept_of (state_is t words) ∙ did.feed;
      number = number_is t words (omega (arith, number, lt)) ∙ ap (λ n. number_after n (length words)) number;
      heard = did.told ∙ told_each notes before.heard ∙ ap (told_notes notes) told.heard
          ∙ sym (told-append t.notes notes first.heard)
          ∙ ap (λ notes. told_notes notes first.heard)
          (ap (λ notes. t.notes ++ notes) (sym same) ∙ sym (notes_are t words));
      cost = let e = cost_is t words in let a = told.cost in let b = did.cost in omega (arith, e, a, b);
    }

-- The words after the first ones were played too.
pub told_on : (t : Replay) (first now : Outlets) (gpu : Kept) (played : ℕ) (xs ys all : List ℕ) → xs ++ ys ≡ all
    → IsTold (after_words (after_words t xs) ys) first now gpu played → IsTold (after_words t all) first now gpu played
told_on t first now gpu played xs ys all both told =
    let P : Replay → Type 0 = λ replay. IsTold replay first now gpu played in
    subst P (sym (after_words-append t xs ys) ∙ ap (after_words t) both) told

-- the same for the first of the words after the first ones; `number`: the number of events played before them
pub told_first : (t : Replay) (first now : Outlets) (gpu : Kept) (words : List ℕ) (at count played number : ℕ)
    → at ≤ length words → number ≡ number_after played at
    → IsTold (after_words (after_words t (take at words)) (take count (take (length words - at) (drop at words)))) first
    now gpu (number_after number count)
    → IsTold (after_words t (take (at + count) words)) first now gpu (number_after played (at + count))
told_first t first now gpu words at count played number le same told =
    let P : ℕ → Type 0 = λ n. IsTold (after_words t (take (at + count) words)) first now gpu n in
    let e : number_after number count ≡ number_after played (at + count) = omega (arith, same) in
    subst P e
    (told_on t first now gpu (number_after number count) (take at words)
    (take count (take (length words - at) (drop at words))) (take (at + count) words) (taken_both words at count le)
    told)

-- the same for all words after the first ones
pub told_rest : (t : Replay) (first now : Outlets) (gpu : Kept) (words : List ℕ) (at played number : ℕ)
    → at ≤ length words → number ≡ number_after played at
    → IsTold (after_words (after_words t (take at words)) (take (length words - at) (drop at words))) first now gpu
    (number_after number (length (take (length words - at) (drop at words))))
    → IsTold (after_words t words) first now gpu (number_after played (length words))
told_rest t first now gpu words at played number le same told =
    let rest = take (length words - at) (drop at words) in
    let long = length-drop at words in
    let all = length-take-le (length words - at) (drop at words) (omega (arith, long)) in
    let P : ℕ → Type 0 = λ n. IsTold (after_words t words) first now gpu n in
    let e : number_after number (length rest) ≡ number_after played (length words) = omega (arith, same, all, le) in
    subst P e
    (told_on t first now gpu (number_after number (length rest)) (take at words) rest words (rest_both words at le)
    told)

-- no word is left after the first ones
pub told_all : (t : Replay) (first now : Outlets) (gpu : Kept) (words : List ℕ) (at played : ℕ)
    → at ≤ length words → length words ≤ at
    → IsTold (after_words t (take at words)) first now gpu (number_after played at)
    → IsTold (after_words t words) first now gpu (number_after played (length words))
told_all t first now gpu words at played le all told =
    let P : List ℕ → Type 0 = λ xs. IsTold (after_words t xs) first now gpu (number_after played at) in
    let Q : ℕ → Type 0 = λ n. IsTold (after_words t words) first now gpu (number_after played n) in
    let e : at ≡ length words = omega (arith, le, all) in
    subst Q e (subst P (take_all at words all) told)

-- no word was played yet
pub told_none : (t : Replay) (first now : Outlets) (gpu : Kept) (played : ℕ) → played < 2 ^ 64
    → IsTold t first now gpu played → IsTold t first now gpu (number_after played 0)
told_none t first now gpu played lt told =
    let P : ℕ → Type 0 = λ n. IsTold t first now gpu n in
    let e : played ≡ number_after played 0 = omega (arith, lt) in
    subst P e told
