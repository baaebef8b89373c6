-- Words that are fed while their lines are added.
use Rattle.std.specs.Prelude.{◌≡◌, ◌≤◌, ◌⊎◌, ℕ, ◌+◌, List, [], ◌∷◌, ◌++◌, Option, None, Some, Result, OnOk, OnErr}
use Rattle.dev_io.specs.Device.{Rose}
use Rattle.gpu_core.specs.Kept.{Kept, kept_of}
use Rattle.gpu_core.specs.Machine.{State}
use Rattle.gp0_packets.specs.declared.note.Note.{Note}
use Rattle.gathered_out.specs.Pieces.{Piece, piece}
use Rattle.gathered_out.specs.Puts.{Puts}
use Rattle.event_play.specs.Fed.{fed, fed_notes, fed_cost}
use Rattle.event_play.specs.Lines.{IsBuffered, lines_while, lines_cost}
use Rattle.event_play.specs.Streams.{Outlets, sink_of}
use Rattle.event_play.specs.Changes.{Change, fed_changes}
use Rattle.event_play.specs.Told.{told_notes}
use Rattle.event_play.specs.declared.ending.Mode.{Mode}
use Rattle.event_play.specs.declared.outlet.Lines.{Lines}

-- ---- the lines that are added while words are fed; `mode`: the mode that asks for them, None if nothing does

-- the lines of these notes and changes; below, their store steps
abbrev pub lines_in : Option Mode → (notes : List Note) → (changes : List Change) → List ℕ
lines_in None notes changes = []
lines_in (Some mode) notes changes = lines_while mode notes changes

abbrev pub looks_in : Option Mode → (changes : List Change) → ℕ
looks_in None changes = 0
looks_in (Some mode) changes = lines_cost mode [] changes

-- There may be lines, and they are buffered.
abbrev pub BuffersLines : Option Mode → Type 0
BuffersLines None = ⊥
BuffersLines (Some mode) = IsBuffered mode

-- the lines of words fed in event `number`; below, the store steps of feeding them and of their lines
abbrev pub fed_lines : Option Mode → State → (number : ℕ) → List ℕ → List ℕ
fed_lines mode s number words = lines_in mode (fed_notes s number words) (fed_changes s number words)

abbrev pub fed_lines_cost : Option Mode → State → (number : ℕ) → List ℕ → ℕ
fed_lines_cost mode s number words = fed_cost s words + looks_in mode (fed_changes s number words)

-- ---- the words

-- the number of an event, and the mode that asks for lines of its words
pub record EventInMode : Type 0 where
  pub number : ℕ
  pub mode : Option Mode

abbrev pub in_event : (number : ℕ) → Option Mode → EventInMode
in_event number mode = record { number = number; mode = mode }

-- what feeding words changes: the sink, the taps and the store steps, and the essential state of the GPU
pub record Drawing : Type 0 where
  pub out : Outlets
  pub gpu : Kept

abbrev pub drawing : Outlets → Kept → Drawing
drawing out gpu = record { out = out; gpu = gpu }

-- These words were fed in this event, from the GPU state `s`.
pub record Feeds (event_in_mode : EventInMode) (s : State) (words : List ℕ) (before : Outlets)
    (now : Drawing) : Type 0 where
  pub stands : kept_of (fed s words) ≡ now.gpu
  pub heard : now.out.heard ≡ told_notes (fed_notes s event_in_mode.number words) before.heard
  pub cost : now.out.steps ≤ before.steps + fed_lines_cost event_in_mode.mode s event_in_mode.number words

-- The first of these words were fed, up to one whose line could not be written.
pub record StopsFeeding (event_in_mode : EventInMode) (s : State) (words : List ℕ) (was : Outlets)
    (now : Drawing) : Type 0 where
  pub before : List ℕ
  pub word : ℕ
  pub after : List ℕ
  pub is : words ≡ before ++ word ∷ after
  pub stands : kept_of (fed s (before ++ word ∷ [])) ≡ now.gpu
  pub heard : now.out.heard ≡ told_notes (fed_notes s event_in_mode.number (before ++ word ∷ [])) was.heard
  pub cost : now.out.steps ≤ was.steps + fed_lines_cost event_in_mode.mode s event_in_mode.number (before ++ word ∷ [])

-- the lines of these words, as output of this event
abbrev pub due_lines : EventInMode → State → List ℕ → Piece
due_lines event_in_mode s words = piece event_in_mode.number (fed_lines event_in_mode.mode s event_in_mode.number words)

-- What a call that feeds words does, for every GPU state with the essential state before it. Ok: all words were fed and
-- all their lines added. Err: a line could not be written. Words have lines only in modes that buffer lines.
pub record FeedsWords {Value : Type 0} (event_in_mode : EventInMode) (words : List ℕ) (before now : Drawing)
    (result : Result Value ℕ) : Type 0 where
  pub ok : (s : State) → kept_of s ≡ before.gpu → OnOk result (Feeds event_in_mode s words before.out now)
  pub failed : (s : State) → kept_of s ≡ before.gpu → OnErr result (StopsFeeding event_in_mode s words before.out now)
  pub puts : (s : State) → kept_of s ≡ before.gpu
      → Puts (due_lines event_in_mode s words) (sink_of before.out) (sink_of now.out) result
  pub kept : BuffersLines event_in_mode.mode ⊎ (now.out.buffered ≡ before.out.buffered)
  pub buffers : OnErr result (BuffersLines event_in_mode.mode)
  pub cause : OnErr result (Rose before.out.faults now.out.faults)
  pub faults : before.out.faults ≤ now.out.faults

-- ---- the receiver

-- the lines at two times have the same mode, buffer and sink
abbrev pub AreSameLines : {K : Type 0} → (before after : Lines K) → Type 0
AreSameLines before after =
    (before.buffered.ghost_name ≡ after.buffered.ghost_name) × (before.out.ghost_name ≡ after.out.ghost_name)
    × (before.mode ≡ after.mode)
