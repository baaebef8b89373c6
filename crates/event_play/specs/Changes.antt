-- What words of GP0 change in video memory (our own rule).
use Rattle.std.specs.Prelude.{ℕ, ◌+◌, ◌==◌, ◌&&◌, List, [], ◌∷◌, Option, None, Some, nat_lt, if◌then◌else◌}
use Rattle.px_num.specs.declared.shape.Cell.{Cell}
use Rattle.gp0_packets.specs.declared.note.Note.{Note}
use Rattle.gpu_capture.specs.declared.event.Event.{Event}
use Rattle.gpu_core.specs.Machine.{State, after_gp0, gp0_note}
use Rattle.packet_text.specs.Line.{change_line}
use Rattle.vram_store.specs.Vram.{at, height_of}
use Rattle.event_play.specs.Step.{Machine, event_words}

-- the change of a fed word: the note of the item that it completed, if any, and video memory before and after the word
pub record Change : Type 0 where
  pub note : Option Note
  pub before : List ℕ
  pub after : List ℕ

abbrev pub word_change : State → (number word : ℕ) → Change
word_change s number word =
    record { note = gp0_note s number word; before = s.parts.m; after = (after_gp0 s word).parts.m }

-- the changes of words, all fed in event `number`
abbrev pub fed_changes : State → (number : ℕ) → List ℕ → List Change
fed_changes s number [] = []
fed_changes s number (word ∷ words) = word_change s number word ∷ fed_changes (after_gp0 s word) number words

-- the changes of an event
abbrev pub event_changes : Machine → (number : ℕ) → Event → List Change
event_changes s number event = fed_changes s.gpu number (event_words s event)

-- ---- one cell

-- the value of a cell; 0 if video memory has no such cell
abbrev pub seen_cell : Cell → List ℕ → ℕ
seen_cell cell m = if nat_lt cell.x 1024 && nat_lt cell.y (height_of m) then at m cell.x cell.y else 0

-- the line of an item that changed the value of the cell; empty if it did not, or if no item was completed
abbrev pub cell_change_line : Option Note → (before after : ℕ) → List ℕ
cell_change_line None before after = []
cell_change_line (Some note) before after = if before == after then [] else change_line note before after

abbrev pub change_lines : Cell → Change → List ℕ
change_lines cell change = cell_change_line change.note (seen_cell cell change.before) (seen_cell cell change.after)

-- the store steps of looking at the cell: one before and one after each word
abbrev pub looks_cost : List Change → ℕ
looks_cost [] = 0
looks_cost (change ∷ changes) = 2 + looks_cost changes
