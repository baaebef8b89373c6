-- The meaning of bytes that are read as a state (our own rule).
use Rattle.std.specs.Prelude.{ℕ, ◌+◌, ◌*◌, List, [], ◌∷◌, ◌++◌, None, if◌then◌else◌, length, take, drop, nat_lt}
use Rattle.byteorder.specs.Endian.{little_number}
use Rattle.gp0_words.specs.declared.pending.Pending.TheVariants as pending
use Rattle.gp1_status.specs.Registers.{Registers}
use Rattle.gp1_status.specs.Words.{registers_in}
use Rattle.list_dma.specs.declared.run.Run.TheVariants as run
use Rattle.snapshot_words.specs.Sections.{allows, wants}
use Rattle.snapshot_words.specs.Values.{height_in, played_in, pending_in, load_in, store_in, run_in, cells_in}
use Rattle.snapshot_words.specs.declared.outline.Outline.{Outline}
use Rattle.snapshot_words.specs.declared.section.Section.{Section}
use Rattle.snapshot_words.specs.declared.section.Section.TheVariants as section

-- The meaning of bytes from an offset on: a value, the offset after it and the bytes left; or truncated, with the
-- offset of the end; or a word that is not allowed, with its offset.
pub data Found (A : Type 0) : Type 0 where
  Whole : A → ℕ → List ℕ → Found A
  Short : ℕ → Found A
  Bad : ℕ → ℕ → Found A

-- a value, then the meaning of the bytes after it
abbrev pub found_then : {A B : Type 0} → Found A → (A → ℕ → List ℕ → Found B) → Found B
found_then (Whole value offset rest) next = next value offset rest
found_then (Short offset) next = Short offset
found_then (Bad offset word) next = Bad offset word

-- ---- one part

-- the word of four bytes
abbrev pub word_of : (a b c d : ℕ) → ℕ
word_of a b c d = little_number 4 (a ∷ b ∷ c ∷ d ∷ [])

-- the words of a part; `got` are its words so far
abbrev pub section_from : Section → (got : List ℕ) → (offset : ℕ) → (bytes : List ℕ) → Found (List ℕ)
section_from s got offset [] = if wants s got then Short offset else Whole got offset []
section_from s got offset (a ∷ []) = if wants s got then Short (offset + 1) else Whole got offset (a ∷ [])
section_from s got offset (a ∷ b ∷ []) = if wants s got then Short (offset + 2) else Whole got offset (a ∷ b ∷ [])
section_from s got offset (a ∷ b ∷ c ∷ []) =
    if wants s got then Short (offset + 3) else Whole got offset (a ∷ b ∷ c ∷ [])
section_from s got offset (a ∷ b ∷ c ∷ d ∷ rest) =
    let word = word_of a b c d in
    if wants s got then
    (if allows s got word then section_from s (got ++ word ∷ []) (offset + 4) rest else Bad offset word)
    else Whole got offset (a ∷ b ∷ c ∷ d ∷ rest)

-- ---- a state without its memories: its parts, one after another

-- Each part is stored in the outline when it is read.

-- the outline after the registers; the parts not read yet are empty
abbrev pub begun : (played : ℕ) → Registers → Outline
begun played regs =
    record { played = played; regs = regs; pending = pending.Idle; load = None; store = None; run = run.Idle }

-- after the open store
abbrev pub run_from : Outline → ℕ → List ℕ → Found Outline
run_from o offset bytes =
    found_then (section_from section.Run [] offset bytes) (λ words. Whole (record o { run = run_in words }))

-- after what is pending
abbrev pub store_from : Outline → ℕ → List ℕ → Found Outline
store_from o offset bytes =
    found_then (section_from (section.Store o.regs.height) [] offset bytes)
    (λ words. run_from (record o { store = store_in words }))

-- after the registers
abbrev pub pending_from : Outline → ℕ → List ℕ → Found Outline
pending_from o offset bytes =
    found_then (section_from (section.Pending o.regs.height) [] offset bytes)
    (λ words. store_from (record o { pending = pending_in words; load = load_in words }))

-- after the front
abbrev pub registers_from : (height played : ℕ) → ℕ → List ℕ → Found Outline
registers_from height played offset bytes =
    found_then (section_from (section.Registers height) [] offset bytes)
    (λ words. pending_from (begun played (registers_in height words)))

unfoldable pub outline_from : (offset : ℕ) → List ℕ → Found Outline
outline_from offset bytes =
    found_then (section_from section.Front [] offset bytes)
    (λ words. registers_from (height_in words) (played_in words))

-- ---- a whole state

-- the words of bytes, four bytes each
abbrev pub words_in : List ℕ → List ℕ
words_in (a ∷ b ∷ c ∷ d ∷ rest) = word_of a b c d ∷ words_in rest
words_in short = []

-- `count` words, with any values
abbrev pub memory_from : (count : ℕ) → (offset : ℕ) → List ℕ → Found (List ℕ)
memory_from count offset bytes =
    if nat_lt (length bytes) (4 * count) then Short (offset + length bytes)
    else Whole (words_in (take (4 * count) bytes)) (offset + 4 * count) (drop (4 * count) bytes)

-- a state with its memories: the cells of video memory, and the words of main memory
pub record Snapshot : Type 0 where
  pub outline : Outline
  pub m : List ℕ
  pub ram : List ℕ

-- the words of main memory
unfoldable pub ram_words : ℕ
ram_words = 524288

-- after the outline
abbrev pub memories_from : Outline → ℕ → List ℕ → Found Snapshot
memories_from o offset bytes =
    found_then (memory_from (512 * o.regs.height) offset bytes) (λ cells offset rest.
    found_then (memory_from ram_words offset rest) (λ ram.
    Whole (record { outline = o; m = cells_in cells; ram = ram })))

-- the state after the file header
unfoldable pub state_from : (offset : ℕ) → List ℕ → Found Snapshot
state_from offset bytes = found_then (outline_from offset bytes) memories_from
