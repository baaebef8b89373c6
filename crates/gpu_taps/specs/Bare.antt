-- Notes without an area, one event each, as those of a register's word and of a data word of a load (our own rule).
use Rattle.std.specs.Prelude.{ℕ, ◌+◌, List, [], ◌∷◌, None, fold}
use Rattle.gp0_packets.specs.declared.note.Note.{Note}
use Rattle.gpu_taps.specs.Tally.{Reading, capped, reading_after}

-- of one word, in event `event`
abbrev pub bare_note : (class event word : ℕ) → Note
bare_note class event word = record { event = event; class = class; head = word; area = None }

-- of several words, one after another; the first event is number `first`, and numbers stop at 2^64 - 1
abbrev pub bare_notes : (class first : ℕ) → List ℕ → List Note
bare_notes class first [] = []
bare_notes class first (word ∷ words) = bare_note class (capped first) word ∷ bare_notes class (first + 1) words

-- the reading of a tap after notes
abbrev pub after_notes : List Note → Reading → Reading
after_notes notes reading = fold (λ reading note. reading_after note reading) reading notes
