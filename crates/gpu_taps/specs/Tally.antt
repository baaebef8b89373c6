-- The numbers of a tap after one more note (our own rule).
use Rattle.std.specs.Prelude.{ℕ, ◌+◌, ◌-◌, ◌*◌, ◌%◌, ◌^◌, ℤ, pos, ◌+ℤ◌, ◌-ℤ◌, nat_abs, int_lt, min, max}
use Rattle.std.specs.Prelude.{nat_lt, nat_le, ◌==◌, ◌&&◌, if◌then◌else◌, Option, Some, None}
use Rattle.std.specs.Prelude.{List, [], ◌∷◌, ◌++◌, length, slice_index, slice_set, drop}
use Rattle.px_num.specs.declared.shape.Box2.{Box2}
use Rattle.gp0_packets.specs.declared.note.Note.{Note}
use Rattle.gpu_taps.specs.declared.noted.Noted.{Noted}

-- a number stops at 2^64 - 1
abbrev pub capped : ℕ → ℕ
capped n = min n (2 ^ 64 - 1)

-- Kind 0: the number at the note's class grows by 1. Nothing changes unless there are ten numbers and the class is at
-- most 9.
abbrev pub counts_after : List ℕ → (class : ℕ) → List ℕ
counts_after numbers class =
    if length numbers == 10 && nat_lt class 10
    then slice_set numbers class (capped (slice_index numbers class + 1))
    else numbers

-- Kind 1: event, class and head of the last 64 notes, the oldest first. Nothing changes unless the length is a multiple
-- of 3, at most 192.
abbrev pub trace_after : List ℕ → Note → List ℕ
trace_after numbers note =
    if length numbers % 3 == 0 && nat_le (length numbers) 192 then
    drop (if length numbers == 192 then 3 else 0) numbers ++ note.event ∷ note.class ∷ note.head ∷ []
    else numbers

-- how many cells are from first to last in one direction, both included
abbrev pub side_of : (first last : ℤ) → ℕ
side_of first last = if int_lt last first then 0 else nat_abs (last +ℤ pos 1 -ℤ first)

-- (x2 - x1 + 1) * (y2 - y1 + 1)
abbrev pub cells_of : Box2 → ℕ
cells_of area = side_of area.x1 area.x2 * side_of area.y1 area.y2

-- Kind 2: the notes with an area, the sum of their cells, and the most cells of one area. Nothing changes unless there
-- are three numbers and the note has an area.
abbrev pub cover_after : List ℕ → Option Box2 → List ℕ
cover_after numbers None = numbers
cover_after numbers (Some area) =
    if length numbers == 3 then
    capped (slice_index numbers 0 + 1)
    ∷ capped (slice_index numbers 1 + cells_of area)
    ∷ max (slice_index numbers 2) (capped (cells_of area)) ∷ []
    else numbers

-- the numbers by the kind; any other kind changes nothing
unfoldable pub tally : (kind : ℕ) → List ℕ → Note → List ℕ
tally kind numbers note =
    if kind == 0 then counts_after numbers note.class else
    (if kind == 1 then trace_after numbers note else
    (if kind == 2 then cover_after numbers note.area else numbers))

-- the reading of a tap: its kind and its numbers
pub record Reading : Type 0 where
  pub kind : ℕ
  pub numbers : List ℕ

-- the reading after one more note; the kind stays
unfoldable pub reading_after : Note → Reading → Reading
reading_after note reading = record { kind = reading.kind; numbers = tally reading.kind reading.numbers note }

-- the part of a note that a trace records
abbrev pub noted_of : Note → Noted
noted_of note = record { event = note.event; class = note.class; head = note.head }

-- three numbers for each note
abbrev pub trace_numbers : List Noted → List ℕ
trace_numbers [] = []
trace_numbers (note ∷ notes) = note.event ∷ note.class ∷ note.head ∷ trace_numbers notes

-- a number of a note: its event, class or head for `index` 0, 1 or 2
abbrev pub note_number : Noted → (index : ℕ) → ℕ
note_number note index = if index == 0 then note.event else (if index == 1 then note.class else note.head)
