-- The notes of the items that GP0 words complete, in a buffer of the caller.
use Rattle.std.specs.Prelude.{◌≡◌, ◌<◌, ◌==◌, ℕ, zero, suc, pos, List, [], ◌∷◌, ◌++◌, Option, Some, None, Result, Ok}
use Rattle.std.specs.Prelude.{Err, if◌then◌else◌, length, take, slice_index}
use Rattle.event_play.specs.PlayedWords.{after_words}
use Rattle.event_play.specs.Replay.{Replay, from_state, next_number}
use Rattle.event_play.specs.RigState.{RigState, Stands, StandsFor}
use Rattle.event_play.specs.Step.{Machine}
use Rattle.gp0_packets.specs.declared.note.Note.{Note}
use Rattle.gpu_core.specs.Machine.{gp0_note}
use Rattle.px_num.specs.declared.shape.Box2.{Box2}
use Rattle.psxgpu_c.specs.Calls.{WhereHeld}
use Rattle.psxgpu_c.specs.Shown.{StandsInFront}
use Rattle.psxgpu_c.specs.declared.note.ItemNote.{ItemNote}
use Rattle.psxgpu_c.specs.declared.refusal.Refusal.{Refusal}
use Rattle.psxgpu_c.specs.declared.refusal.Refusal.TheVariants as refusal

-- a note with this area, if there is one; else the area's numbers are 0
abbrev pub with_area : ItemNote → Option Box2 → ItemNote
with_area item None = item
with_area item (Some area) = record item { has_area = 1; x1 = area.x1; y1 = area.y1; x2 = area.x2; y2 = area.y2 }

-- the note of an item that the word with this index completed
abbrev pub item_note : (word : ℕ) → Note → ItemNote
item_note word note = with_area (record {
  event = note.event;
  word = word;
  head = note.head;
  class = note.class;
  has_area = 0;
  x1 = pos 0;
  y1 = pos 0;
  x2 = pos 0;
  y2 = pos 0;
}) note.area

-- no note if no item is completed, or if it is a data word of a load
abbrev pub noted_at : (word : ℕ) → Option Note → List ItemNote
noted_at word None = []
noted_at word (Some note) = if note.class == 9 then [] else item_note word note ∷ []

-- the notes of the first n of these words, fed after `t`
abbrev pub first_notes : Replay → (words : List ℕ) → (n : ℕ) → List ItemNote
first_notes t words zero = []
first_notes t words (suc n) =
    let before = after_words t (take n words) in
    first_notes t words n
    ++ noted_at n (gp0_note before.state.gpu (next_number before.played) (slice_index words n))

-- a rig or the content of a handle, and the caller's notes
pub record Noting (Held : Type 0) : Type 0 where
  pub held : Held
  pub notes : List ItemNote

abbrev pub noting : {Held : Type 0} → Held → List ItemNote → Noting Held
noting held notes = record { held = held; notes = notes }

-- these words were fed after `t`, and their `count` notes are at the start of the buffer
pub record HasNoted (t : Replay) (words : List ℕ) (before : List ItemNote) (now : Noting RigState) (count : ℕ)
    : Type 0 where
  pub stands : StandsFor now.held (after_words t words)
  pub front : StandsInFront (first_notes t words (length words)) before now.notes
  pub is_count : count ≡ length (first_notes t words (length words))

-- The same for each machine that the rig represented. Or the buffer is shorter than the words, and nothing changed.
abbrev pub TakesNoted : (words : List ℕ) → (before now : Noting RigState) → Result ℕ Refusal → Type 0
TakesNoted words before now (Ok count) = (s : Machine) → Stands before.held s
    → HasNoted (from_state s before.held.played) words before.notes now count
TakesNoted words before now (Err refusal.NoRoom) = (length before.notes < length words) × (now ≡ before)
TakesNoted words before now (Err other) = ⊥

-- the same for a handle
abbrev pub TakesHeld : (words : List ℕ) → (before now : Noting (Option RigState)) → Result ℕ Refusal → Type 0
TakesHeld words before now answer = WhereHeld before.held now.held
    (λ was rig. TakesNoted words (noting was before.notes) (noting rig now.notes) answer)
    ((answer ≡ Err refusal.Closed) × (now.notes ≡ before.notes))
