-- The memories of a state, as they are read from a source.
use Rattle.std.specs.Prelude.{◌≡◌, ◌≤◌, ◌<◌, ℕ, ◌+◌, ◌*◌, List, ◌++◌, Option, Result, IfErr, length, take}
use Rattle.dev_io.specs.Device.{prepended, IsAtEnd, Rose}
use Rattle.px_num.specs.Height.{IsHeight}
use Rattle.event_play.specs.RigState.{RigState}
use Rattle.gpu_capture.specs.Whole.{AreWords}
use Rattle.gpu_capture.specs.declared.event.Stop.TheVariants.{Truncated, ReadFault}
use Rattle.snapshot_words.specs.Outline.{AreCells, bytes_of}
use Rattle.snapshot_words.specs.Taking.{IsReadFault}
use Rattle.snapshot_words.specs.Values.{cell_words}
use Rattle.snapshot_words.specs.declared.fault.SnapFault.{SnapFault}
use Rattle.snapshot_words.specs.declared.fault.SnapFault.TheVariants as fault

-- these cells were read, two in each word, and no byte more
pub record TakesCells (before now : Option (List ℕ)) (cells : List ℕ) : Type 0 where
  pub bytes : before ≡ prepended (bytes_of (cell_words cells)) now
  pub each : AreCells cells

-- these words were read, and no byte more
pub record TakesWords (before now : Option (List ℕ)) (words : List ℕ) : Type 0 where
  pub bytes : before ≡ prepended (bytes_of words) now
  pub each : AreWords words

-- if the rows before row y were read and the bytes of the block come next, then row y is read too
abbrev pub HasRow : (block : List ℕ) → (y : ℕ) → (m now : List ℕ) → Type 0
HasRow block y m now = (before left : Option (List ℕ)) → TakesCells before (prepended block left) (take (1024 * y) m)
    → TakesCells before left (take (1024 * (y + 1)) now)

-- the same of 512 words
abbrev pub HasBlock : (block : List ℕ) → (b : ℕ) → (ram now : List ℕ) → Type 0
HasBlock block b ram now = (before left : Option (List ℕ))
    → TakesWords before (prepended block left) (take (512 * b) ram)
    → TakesWords before left (take (512 * (b + 1)) now)

-- both memories were read, and no byte more
pub record TakesMemories (before now : Option (List ℕ)) (m ram : List ℕ) : Type 0 where
  pub bytes : before ≡ prepended (bytes_of (cell_words m) ++ bytes_of ram) now
  pub cells : AreCells m
  pub words : AreWords ram

-- video memory has the rows of the height, and main memory all its words
pub record HasMemories (rig : RigState) : Type 0 where
  pub height : IsHeight rig.gpu.parts.regs.height
  pub rows : length rig.gpu.parts.m ≡ 1024 * rig.gpu.parts.regs.height
  pub words : length rig.ram ≡ 524288

-- video memory has `rows` rows, which is its height
pub record HasRows (rig : RigState) (rows : ℕ) : Type 0 where
  pub all : length rig.gpu.parts.m ≡ 1024 * rows
  pub height : rig.gpu.parts.regs.height ≡ rows
  pub most : rows ≤ 1024

-- why reading ended within a word, at byte offset `offset`
abbrev pub SaysShort : SnapFault → (offset : ℕ) → (now : Option (List ℕ)) → Type 0
SaysShort (fault.Stop (Truncated byte)) offset now = (byte ≡ offset) × IsAtEnd now
SaysShort (fault.Stop (ReadFault byte)) offset now = byte ≡ offset
SaysShort (fault.Stop other) offset now = ⊥
SaysShort (fault.Bad byte word) offset now = ⊥

-- `count` words were wanted from byte offset `offset` on, and fewer bytes were read
pub record LacksWords (before now : Option (List ℕ)) (offset count : ℕ) (why : SnapFault) : Type 0 where
  pub taken : List ℕ
  pub bytes : before ≡ prepended taken now
  pub few : length taken < 4 * count
  pub says : SaysShort why (offset + length taken) now

-- a machine with other cells
abbrev pub with_cells : RigState → List ℕ → RigState
with_cells rig m = record rig { gpu = record rig.gpu { parts = record rig.gpu.parts { m = m } } }

-- a machine with other memories
abbrev pub with_memories : RigState → (m ram : List ℕ) → RigState
with_memories rig m ram = record (with_cells rig m) { ram = ram }

-- a machine received other memories, of the same sizes
pub record ChangesMemories (before now : RigState) : Type 0 where
  pub others : now ≡ with_memories before now.gpu.parts.m now.ram
  pub sizes : HasMemories now

-- a read error only if the source failed; `before` and `now` count its failures
pub record HasCause {Value : Type 0} (before now : ℕ) (result : Result Value SnapFault) : Type 0 where
  pub rose : IfErr result (λ fault. IsReadFault fault → Rose before now)
  pub faults : before ≤ now
