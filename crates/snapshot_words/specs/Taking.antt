-- What is read from a source, word by word, and its meaning by the table.
use Rattle.std.specs.Prelude.{◌≡◌, ◌<◌, ℕ, ◌+◌, ◌*◌, ◌^◌, List, [], ◌++◌, Option, length}
use Rattle.dev_io.specs.Device.{prepended, IsAtEnd}
use Rattle.gpu_capture.specs.Written.{word_bytes}
use Rattle.gpu_capture.specs.declared.event.Stop.TheVariants.{Truncated, ReadFault}
use Rattle.snapshot_words.specs.Outline.{bytes_of, outline_words}
use Rattle.snapshot_words.specs.Reading.{Found, Whole, Short, Bad, section_from, outline_from}
use Rattle.snapshot_words.specs.declared.fault.SnapFault.{SnapFault}
use Rattle.snapshot_words.specs.declared.fault.SnapFault.TheVariants as fault
use Rattle.snapshot_words.specs.declared.outline.Outline.{Outline}
use Rattle.snapshot_words.specs.declared.section.Section.{Section}

-- the source failed
abbrev pub IsReadFault : SnapFault → Type 0
IsReadFault (fault.Stop (ReadFault byte)) = Unit {0}
IsReadFault other = ⊥

-- ---- words

-- a word was read
pub record IsWord (before now : Option (List ℕ)) (word : ℕ) : Type 0 where
  pub bytes : before ≡ prepended (word_bytes word) now
  pub fits : word < 2 ^ 32

-- why no word could be read, after `taken`, fewer than 4 bytes of it
abbrev pub SaysNoWord : SnapFault → ℕ → List ℕ → Option (List ℕ) → Type 0
SaysNoWord (fault.Stop (Truncated byte)) offset taken now =
    (length taken < 4) × (byte ≡ offset + length taken) × IsAtEnd now
SaysNoWord (fault.Stop (ReadFault byte)) offset taken now = (length taken < 4) × (byte ≡ offset + length taken)
SaysNoWord (fault.Stop other) offset taken now = ⊥
SaysNoWord (fault.Bad byte word) offset taken now = ⊥

pub record EndsWord (before now : Option (List ℕ)) (offset : ℕ) (why : SnapFault) : Type 0 where
  pub taken : List ℕ
  pub bytes : before ≡ prepended taken now
  pub says : SaysNoWord why offset taken now

-- not all of `count` words were there: after some complete words came only a part of the next one
pub record BreaksOff (before now : Option (List ℕ)) (offset count : ℕ) (why : SnapFault) : Type 0 where
  pub got : List ℕ
  pub part : List ℕ
  pub bytes : before ≡ prepended (bytes_of got ++ part) now
  pub few : length got < count
  pub says : SaysNoWord why (offset + 4 * length got) part now

-- ---- the meaning of what is read

-- The meaning of the bytes read if reading ends with a fault. A word that is not allowed is one, whatever follows.
-- Otherwise the bytes read are truncated.
abbrev pub SaysFault : {A : Type 0} → SnapFault → (List ℕ → Found A) → List ℕ → Option (List ℕ) → Type 0
SaysFault (fault.Bad byte word) found taken now = (rest : List ℕ) → found (taken ++ rest) ≡ Bad byte word
SaysFault (fault.Stop (Truncated byte)) found taken now = (found taken ≡ Short byte) × IsAtEnd now
SaysFault (fault.Stop (ReadFault byte)) found taken now = found taken ≡ Short byte
SaysFault (fault.Stop other) found taken now = ⊥

-- these bytes are truncated
abbrev pub IsShort : {A : Type 0} → Found A → Type 0
IsShort (Short offset) = Unit {0}
IsShort found = ⊥

-- all of these bytes are needed: any proper prefix of them is truncated
abbrev pub AreNeeded : {A : Type 0} → (List ℕ → Found A) → List ℕ → Type 0
AreNeeded found taken = (part more : List ℕ) → taken ≡ part ++ more → (more ≡ [] → ⊥) → IsShort (found part)

-- needed bytes were read that mean this fault
pub record Stops {A : Type 0} (found : List ℕ → Found A) (before now : Option (List ℕ)) (why : SnapFault) : Type 0 where
  pub taken : List ℕ
  pub bytes : before ≡ prepended taken now
  pub needed : AreNeeded found taken
  pub says : SaysFault why found taken now

-- the bytes left in a source, and the offset of the first of them
pub record Remainder : Type 0 where
  pub offset : ℕ
  pub left : Option (List ℕ)

abbrev pub remainder : ℕ → Option (List ℕ) → Remainder
remainder offset left = record { offset = offset; left = left }

-- The words of a part so far were read. Whatever follows, reading continues after them at the new offset.
pub record Goes (s : Section) (before now : Remainder) (got : List ℕ) : Type 0 where
  pub bytes : before.left ≡ prepended (bytes_of got) now.left
  pub needed : AreNeeded (section_from s [] before.offset) (bytes_of got)
  pub says : (rest : List ℕ)
      → section_from s [] before.offset (bytes_of got ++ rest) ≡ section_from s got now.offset rest

-- the words of a whole part were read
pub record Takes (s : Section) (before now : Remainder) (words : List ℕ) : Type 0 where
  pub bytes : before.left ≡ prepended (bytes_of words) now.left
  pub needed : AreNeeded (section_from s [] before.offset) (bytes_of words)
  pub moved : now.offset ≡ before.offset + 4 * length words
  pub says : (rest : List ℕ) → section_from s [] before.offset (bytes_of words ++ rest) ≡ Whole words now.offset rest

-- the words of a state without its memories were read, and no more bytes
pub record TakesOutline (before now : Option (List ℕ)) (first offset : ℕ) (o : Outline) : Type 0 where
  pub bytes : before ≡ prepended (bytes_of (outline_words o)) now
  pub needed : AreNeeded (outline_from first) (bytes_of (outline_words o))
  pub moved : offset ≡ first + 4 * length (outline_words o)
  pub says : (rest : List ℕ) → outline_from first (bytes_of (outline_words o) ++ rest) ≡ Whole o offset rest
