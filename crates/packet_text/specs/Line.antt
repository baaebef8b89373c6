-- The lines that the commands write (our own rule). Each ends with one newline byte.
use Rattle.std.specs.Prelude.{ℕ, List, [], ◌++◌, Option, None, Some, ◌==◌, if◌then◌else◌, codes, decimal}
use Rattle.std.specs.Fmt.{signed_decimal}
use Rattle.gp0_packets.specs.declared.note.Note.{Note}
use Rattle.gp0_packets.specs.Packets.{sets_register}
use Rattle.gp0_words.specs.Kinds.{opcode_of}
use Rattle.px_num.specs.declared.shape.Box2.{Box2}
use Rattle.packet_text.specs.Number.{word_text, cell_text}

-- a word that was read
unfoldable pub word_line : ℕ → List ℕ
word_line word = word_text word ++ codes "\n"

-- the status at the end
unfoldable pub status_line : ℕ → List ℕ
status_line word = codes "status " ++ (word_text word ++ codes "\n")

-- ---- notes

-- class 0
abbrev pub miscellaneous_name : (opcode : ℕ) → List ℕ
miscellaneous_name opcode =
    if opcode == 0x02 then codes "fill" else
    (if opcode == 0x1f then codes "irq" else codes "nop")

-- class 7
abbrev pub environment_name : (opcode : ℕ) → List ℕ
environment_name opcode = if sets_register opcode then codes "environment" else codes "nop"

-- the name of an item, by its class and its head
abbrev pub note_name : (class head : ℕ) → List ℕ
note_name class head =
    if class == 0 then miscellaneous_name (opcode_of head) else
    (if class == 1 then codes "polygon" else
    (if class == 2 then codes "line" else
    (if class == 3 then codes "rectangle" else
    (if class == 4 then codes "copy" else
    (if class == 5 then codes "load" else
    (if class == 6 then codes "store" else
    (if class == 7 then environment_name (opcode_of head) else
    (if class == 8 then codes "finish" else codes "pixels"))))))))

-- the two corners of an area, or a dash
abbrev pub area_text : Option Box2 → List ℕ
area_text None = codes " -"
area_text (Some area) =
    codes " " ++ (signed_decimal area.x1 ++ (codes " " ++ (signed_decimal area.y1
    ++ (codes " " ++ (signed_decimal area.x2 ++ (codes " " ++ signed_decimal area.y2))))))

-- event, name, head, area
unfoldable pub note_line : Note → List ℕ
note_line note =
    decimal note.event ++ (codes " " ++ (note_name note.class note.head
    ++ (codes " " ++ (word_text note.head ++ (area_text note.area ++ codes "\n")))))

-- the line of a note in a list: a data word of a load has none
abbrev pub listed : Note → List ℕ
listed note = if note.class == 9 then [] else note_line note

-- an item that changed a cell: event, name, head, and the cell before and after it
unfoldable pub change_line : Note → (before after : ℕ) → List ℕ
change_line note before after =
    decimal note.event ++ (codes " " ++ (note_name note.class note.head
    ++ (codes " " ++ (word_text note.head ++ (codes " " ++ (cell_text before
    ++ (codes " " ++ (cell_text after ++ codes "\n"))))))))
