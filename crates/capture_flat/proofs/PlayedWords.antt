-- Words that are played as one block, one event per word: the replay after them, and their records.
use Rattle.std.proofs.Common.{◌≡◌, ◌≤◌, ◌+◌, ◌*◌, ◌++◌, ℕ, List, [], ◌∷◌, length, refl, ap}
use Rattle.std.proofs.Common.{sym, subst, ◌∙◌, append_assoc, append-nil, option_to_list, ◌==◌, false, arith}
use Rattle.std.proofs.Common.{length-append}
use Rattle.gpu_capture.specs.Words.{word_events}
use Rattle.gpu_capture.specs.Written.{AllowsAll}
use Rattle.gpu_capture.specs.declared.event.Event.{Event}
use Rattle.gpu_capture.specs.declared.event.Event.TheVariants.{Gp0}
use Rattle.gpu_core.specs.Machine.{gp0_note}
use Rattle.gpu_core.proofs.BoxCosts.{gp0_cost-small}
use Rattle.event_play.specs.PlayedWords.{after_word, after_words}
use Rattle.event_play.specs.Replay.{Replay, from_state, next_number}
use Rattle.event_play.specs.Step.{Machine}
use Rattle.event_play.proofs.AtOnce.{word_is}
use Rattle.capture_flat.specs.Flat.{flat_events}
use Rattle.capture_flat.specs.Out.{begun, due_at}
use Rattle.gpu_capture.specs.Written.{spell}
use Rattle.capture_flat.specs.Passing.{Follows}
use Rattle.capture_flat.proofs.Counts.{words_bytes}
use Rattle.capture_flat.proofs.Following.{follows_on}
use Rattle.capture_flat.proofs.Output.{begun_on}

-- ---- the replay after them

-- the same machine after as many events, with nothing else recorded
abbrev untold : Replay → Replay
untold t = from_state t.state t.played

-- The words lead to the same machine, whatever was recorded before.
pub same_state : (t : Replay) (words : List ℕ) → (after_words t words).state ≡ (after_words (untold t) words).state
same_state t [] = refl
same_state t (word ∷ words) =
    same_state (after_word t word) words ∙ sym (same_state (after_word (untold t) word) words)

pub same_played : (t : Replay) (words : List ℕ) → (after_words t words).played ≡ (after_words (untold t) words).played
same_played t [] = refl
same_played t (word ∷ words) =
    same_played (after_word t word) words ∙ sym (same_played (after_word (untold t) word) words)

pub more_notes : (t : Replay) (words : List ℕ)
    → (after_words t words).notes ≡ t.notes ++ (after_words (untold t) words).notes
more_notes t [] = sym (append-nil t.notes)
more_notes t (word ∷ words) =
    let note = option_to_list (gp0_note t.state.gpu (next_number t.played) word) in
    more_notes (after_word t word) words
    ∙ append_assoc t.notes note (after_words (untold (after_word t word)) words).notes
    ∙ ap (λ notes. t.notes ++ notes) (sym (more_notes (after_word (untold t) word) words))

pub more_cost : (t : Replay) (words : List ℕ)
    → (after_words t words).cost ≡ t.cost + (after_words (untold t) words).cost
more_cost t [] = omega arith
more_cost t (word ∷ words) =
    let one = more_cost (after_word t word) words in
    let none = more_cost (after_word (untold t) word) words in
    omega (arith, one, none)

pub words_small : (t : Replay) (words : List ℕ) → t.cost ≤ t.box_cost
    → (after_words t words).cost ≤ (after_words t words).box_cost
words_small t [] small = small
words_small t (word ∷ words) small =
    let here = gp0_cost-small t.state.gpu word in
    words_small (after_word t word) words (omega (arith, here, small))

-- ---- their flat events

pub word_flat : (s : Machine) (word : ℕ) → flat_events s (Gp0 word) ≡ Gp0 word ∷ []
unfolding flat_events
word_flat s word = refl

-- one more event
pub word_follows : (first t : Replay) (events flat : List Event) (word : ℕ) → Follows first events t flat
    → AllowsAll 2 (Gp0 word ∷ [])
    → Follows first (events ++ Gp0 word ∷ []) (after_word t word) (flat ++ Gp0 word ∷ [])
word_follows first t events flat word follows allows =
    let is = word_flat t.state word in
    let P : List Event → Type 0 = λ more. Follows first (events ++ Gp0 word ∷ []) (after_word t word) (flat ++ more) in
    let Q : List Event → Type 0 = λ more. AllowsAll 2 more in
    subst P is
    (follows_on first t (after_word t word) events flat (Gp0 word) follows (word_is t word) refl
    (subst Q (sym is) allows))

pub words_follow : (first t : Replay) (events flat : List Event) (words : List ℕ) → Follows first events t flat
    → AllowsAll 2 (word_events words)
    → Follows first (events ++ word_events words) (after_words t words) (flat ++ word_events words)
words_follow first t events flat [] follows allows = rw (append-nil events, append-nil flat) follows
words_follow first t events flat (word ∷ words) follows allows =
    let P : List Event → List Event → Type 0 = λ all more. Follows first all (after_words t (word ∷ words)) more in
    subst (λ all. P all (flat ++ word_events (word ∷ words))) (append_assoc events (Gp0 word ∷ []) (word_events words))
    (subst (P ((events ++ Gp0 word ∷ []) ++ word_events words)) (append_assoc flat (Gp0 word ∷ []) (word_events words))
    (words_follow first (after_word t word) (events ++ Gp0 word ∷ []) (flat ++ Gp0 word ∷ []) words
    (word_follows first t events flat word follows (allows.0, tt)) allows.1))

-- ---- their records

-- After the first event, the output of a word is its record alone.
pub word_due : (version : ℕ) (t : Replay) (word : ℕ) → 1 ≤ t.played
    → due_at version t (Gp0 word) ≡ spell (Gp0 word ∷ [])
word_due version t word some =
    let counted : (t.played == 0) ≡ false = grind (arith, some) in
    rw (word_flat t.state word, counted) refl

-- the output up to and including the word's record
pub begun_word : (version : ℕ) (t : Replay) (flat : List Event) (word : ℕ) → 1 ≤ t.played → (t.played ≡ 0 → flat ≡ [])
    → begun version (next_number t.played) (flat ++ Gp0 word ∷ [])
    ≡ begun version t.played flat ++ due_at version t (Gp0 word)
begun_word version t flat word some fresh =
    let is = word_flat t.state word in
    let P : List Event → Type 0 = λ more. begun version (next_number t.played) (flat ++ more)
    ≡ begun version t.played flat ++ due_at version t (Gp0 word) in
    subst P is (begun_on version t.played flat (flat_events t.state (Gp0 word)) fresh)

-- the length of the output with the records of the words: 8 bytes more per word
pub words_length : (version : ℕ) (t : Replay) (flat : List Event) (words : List ℕ) → 1 ≤ t.played
    → length (begun version (after_words t words).played (flat ++ word_events words))
    ≡ length (begun version t.played flat) + 8 * length words
words_length version t flat [] some = rw (append-nil flat) (omega arith)
words_length version t flat (word ∷ words) some =
    let e = words_length version (after_word t word) (flat ++ Gp0 word ∷ []) words (omega (arith, some)) in
    let one = ap length (begun_word version t flat word some (λ none. absurd (omega (arith, some, none)))) in
    let both = length-append (begun version t.played flat) (due_at version t (Gp0 word)) in
    let due = ap length (word_due version t word some) in
    let eight = words_bytes (word ∷ []) in
    rw (← append_assoc flat (Gp0 word ∷ []) (word_events words)) (omega (arith, e, one, both, due, eight))
