-- Words that are fed one after another, one event per word, and words that are fed at once.
use Rattle.std.specs.Prelude.{◌≡◌, ◌≤◌, ℕ, ◌+◌, ◌==◌, not, List, [], ◌∷◌, ◌++◌, Option, option_to_list, filter}
use Rattle.std.specs.Prelude.{fold, map}
use Rattle.gp0_packets.specs.declared.note.Note.{Note}
use Rattle.gpu_taps.specs.Bare.{bare_notes, after_notes}
use Rattle.gpu_taps.specs.Tally.{Reading, capped}
use Rattle.gpu_core.specs.Cost.{gp0_cost}
use Rattle.gpu_core.specs.Kept.{Kept, kept_of}
use Rattle.gpu_core.specs.Machine.{State, after_gp0, gp0_note}

-- their notes; the first event is number `first`, and numbers stop at 2^64 - 1
abbrev pub feed_notes : State → (first : ℕ) → List ℕ → List Note
feed_notes s first [] = []
feed_notes s first (word ∷ words) =
    option_to_list (gp0_note s (capped first) word) ++ feed_notes (after_gp0 s word) (first + 1) words

-- notes, except those of data words of a load
abbrev pub but_pixels : List Note → List Note
but_pixels notes = filter (λ note. not (note.class == 9)) notes

-- these words have this note, or none, and otherwise only notes of data words
abbrev pub GivesNote : State → (first : ℕ) → (words : List ℕ) → Option Note → Type 0
GivesNote s first words note = but_pixels (feed_notes s first words) ≡ but_pixels (option_to_list note)

-- the most store steps of these words
abbrev pub feeds_cost : State → List ℕ → ℕ
feeds_cost s [] = 0
feeds_cost s (word ∷ words) = gp0_cost s word + feeds_cost (after_gp0 s word) words

-- the readings of the listeners, and the store steps
pub record Hearing : Type 0 where
  pub heard : List Reading
  pub steps : ℕ

-- the same, with the essential state of the GPU
pub record After : Type 0 where
  pub gpu : Kept
  pub heard : List Reading
  pub steps : ℕ

-- Words were fed at once. The effect is that of feeding them one after another. Only the order of notes differs: each
-- listener received all of them before the next listener.
pub record TakesWords (s : State) (first : ℕ) (words : List ℕ) (before : Hearing) (now : After) : Type 0 where
  pub feed : kept_of (fold after_gp0 s words) ≡ now.gpu
  pub told : now.heard ≡ map (after_notes (feed_notes s first words)) before.heard
  pub cost : now.steps ≤ before.steps + feeds_cost s words

-- words E0h to FFh were executed at once, and no listener has received a note yet
pub record SetsRegisters (s : State) (first : ℕ) (words : List ℕ) (now : Kept) : Type 0 where
  pub feed : kept_of (fold after_gp0 s words) ≡ now
  pub notes : feed_notes s first words ≡ bare_notes 7 first words
