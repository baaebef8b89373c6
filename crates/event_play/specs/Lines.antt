-- The output written during a replay, by the mode (our own rule).
use Rattle.std.specs.Prelude.{◌≡◌, ◌⊎◌, ℕ, List, [], flat_map}
use Rattle.gathered_out.specs.Pieces.{Piece}
use Rattle.gp0_packets.specs.declared.note.Note.{Note}
use Rattle.packet_text.specs.Line.{word_line, listed}
use Rattle.event_play.specs.Frames.{Frame, picture_at, sum_at, frames_cost}
use Rattle.event_play.specs.Changes.{Change, change_lines, looks_cost}
use Rattle.event_play.specs.declared.ending.Mode.{Mode}
use Rattle.event_play.specs.declared.ending.Mode.TheVariants.{Vram, Shot, Report, Frames, Sums, Pixel}
use Rattle.event_play.specs.declared.ending.Mode.TheVariants.{List as Listing, Play as Words}

-- the lines of shown words; the pictures of the selected frames, or the lines of their digests; the lines of notes,
-- except for pixels of a load; or the lines of changes of a cell
abbrev pub lines_for : Mode → (shown : List ℕ) → (frames : List Frame) → (notes : List Note)
    → (changes : List Change) → List ℕ
lines_for Words shown frames notes changes = flat_map word_line shown
lines_for Listing shown frames notes changes = flat_map listed notes
lines_for (Frames at) shown frames notes changes = flat_map (picture_at at) frames
lines_for (Sums at) shown frames notes changes = flat_map (sum_at at) frames
lines_for (Pixel cell) shown frames notes changes = flat_map (change_lines cell) changes
lines_for Vram shown frames notes changes = []
lines_for Shot shown frames notes changes = []
lines_for Report shown frames notes changes = []

-- the lines that are added while words are fed
abbrev pub lines_while : Mode → (notes : List Note) → (changes : List Change) → List ℕ
lines_while mode notes changes = lines_for mode [] [] notes changes

-- the output that is written after an event
abbrev pub lines_after : Mode → (shown : List ℕ) → (frames : List Frame) → List ℕ
lines_after mode shown frames = lines_for mode shown frames [] []

-- the most store steps of this output: those of pictures, and of looking at a cell
abbrev pub lines_cost : Mode → (frames : List Frame) → (changes : List Change) → ℕ
lines_cost (Frames at) frames changes = frames_cost at frames
lines_cost (Sums at) frames changes = frames_cost at frames
lines_cost (Pixel cell) frames changes = looks_cost changes
lines_cost Words frames changes = 0
lines_cost Listing frames changes = 0
lines_cost Vram frames changes = 0
lines_cost Shot frames changes = 0
lines_cost Report frames changes = 0

-- the modes with output after an event: a shown word, a picture or the line of its digest
abbrev pub WritesAfter : Mode → Type 0
WritesAfter Words = Unit {0}
WritesAfter (Frames at) = Unit {0}
WritesAfter (Sums at) = Unit {0}
WritesAfter mode = ⊥

-- the modes whose lines are buffered
abbrev pub IsBuffered : Mode → Type 0
IsBuffered Listing = Unit {0}
IsBuffered (Pixel cell) = Unit {0}
IsBuffered mode = ⊥

-- In every other mode the buffer is empty.
abbrev pub MayBuffer : Mode → List Piece → Type 0
MayBuffer mode buffered = IsBuffered mode ⊎ (buffered ≡ [])
