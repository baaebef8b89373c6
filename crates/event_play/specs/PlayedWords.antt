-- Words written to GP0, one event per word.
use Rattle.std.specs.Prelude.{◌≡◌, ◌≤◌, ℕ, ◌+◌, ◌-◌, ◌^◌, min, List, [], ◌∷◌, ◌++◌, fold, option_to_list}
use Rattle.gp0_packets.specs.declared.note.Note.{Note}
use Rattle.gpu_core.specs.Cost.{gp0_cost, gp0_box_cost}
use Rattle.gpu_core.specs.Kept.{Kept, kept_of}
use Rattle.gpu_core.specs.Machine.{after_gp0, gp0_note}
use Rattle.event_play.specs.Replay.{Replay, next_number}
use Rattle.event_play.specs.Streams.{Outlets}
use Rattle.event_play.specs.Changes.{word_change}
use Rattle.event_play.specs.Told.{told_notes}
use Rattle.event_play.specs.declared.ending.Mode.{Mode}
use Rattle.event_play.specs.declared.ending.Mode.TheVariants.{Pixel}

-- the replay with one more such event
abbrev pub after_word : Replay → (word : ℕ) → Replay
after_word t word = record {
  state = record t.state { gpu = after_gp0 t.state.gpu word };
  played = next_number t.played;
  shown = t.shown;
  frames = t.frames;
  notes = t.notes ++ option_to_list (gp0_note t.state.gpu (next_number t.played) word);
  changes = t.changes ++ word_change t.state.gpu (next_number t.played) word ∷ [];
  cost = t.cost + gp0_cost t.state.gpu word;
  box_cost = t.box_cost + gp0_box_cost t.state.gpu word;
}

abbrev pub after_words : Replay → (words : List ℕ) → Replay
after_words t words = fold after_word t words

-- the notes of these words
abbrev pub word_notes : Replay → (words : List ℕ) → List Note
word_notes t [] = []
word_notes t (word ∷ words) =
    option_to_list (gp0_note t.state.gpu (next_number t.played) word) ++ word_notes (after_word t word) words

-- the number of events played after `count` more, at most 2^64 - 1
abbrev pub number_after : (played count : ℕ) → ℕ
number_after played count = min (played + count) (2 ^ 64 - 1)

-- The GPU, the number of events played, the taps and the store steps are those of replay `t`. `first`: the taps and the
-- store steps before it.
pub record IsTold (t : Replay) (first now : Outlets) (gpu : Kept) (played : ℕ) : Type 0 where
  pub state : kept_of t.state.gpu ≡ gpu
  pub number : t.played ≡ played
  pub heard : now.heard ≡ told_notes t.notes first.heard
  pub cost : now.steps ≤ first.steps + t.cost

-- The mode does not watch a cell.
abbrev pub IsUnwatched : Mode → Type 0
IsUnwatched (Pixel cell) = ⊥
IsUnwatched mode = Unit {0}
