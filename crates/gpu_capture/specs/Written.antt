-- Events as they are written (our own rule): a header, a record for each event, with count 1 if the count is not the
-- channel, and an End record.
use Rattle.std.specs.Prelude.{◌≡◌, ◌≤◌, ◌<◌, ℕ, List, [], ◌∷◌, ◌++◌, ◌+◌, ◌*◌, ◌^◌, flat_map, length}
use Rattle.byteorder.specs.Endian.{little_bytes}
use Rattle.gpu_capture.specs.Capture.{capture, head_of, IsVersion, limit}
use Rattle.gpu_capture.specs.Record.{IsEvent}
use Rattle.gpu_capture.specs.declared.event.Event.{Event}
use Rattle.gpu_capture.specs.declared.event.Event.TheVariants as event
use Rattle.gpu_capture.specs.declared.event.Stop.TheVariants.{End}

-- a word as bytes, the low byte first
unfoldable pub word_bytes : ℕ → List ℕ
word_bytes word = little_bytes 4 word

-- the tag of a record
abbrev pub tag_of : (kind count : ℕ) → ℕ
tag_of kind count = kind * 2 ^ 24 + count

-- the words of the record of one event
abbrev pub record_words : Event → List ℕ
record_words (event.Ram address word) = tag_of 1 1 ∷ address ∷ word ∷ []
record_words (event.Gp0 word) = tag_of 2 1 ∷ word ∷ []
record_words (event.Gp1 word) = tag_of 3 1 ∷ word ∷ []
record_words event.Read = tag_of 4 1 ∷ []
record_words event.Stat = tag_of 5 1 ∷ []
record_words (event.Dma channel madr bcr chcr) = tag_of 6 channel ∷ madr ∷ bcr ∷ chcr ∷ []
record_words (event.Begin madr bcr chcr) = tag_of 7 2 ∷ madr ∷ bcr ∷ chcr ∷ []
record_words event.Turn = tag_of 8 1 ∷ []
record_words event.Skip = tag_of 9 1 ∷ []

abbrev pub spelled : Event → List ℕ
spelled given = flat_map word_bytes (record_words given)

-- the records of events
abbrev pub spell : List Event → List ℕ
spell events = flat_map spelled events

-- an End record
abbrev pub spelled_end : List ℕ
spelled_end = word_bytes (tag_of 0 0)

-- a whole capture of this version
abbrev pub written : ℕ → List Event → List ℕ
written version events = head_of version ++ flat_map spelled events ++ spelled_end

-- ---- what can be written

-- the values of an event are 32-bit words
abbrev pub HoldsWords : Event → Type 0
HoldsWords (event.Ram address word) = word < 2 ^ 32
HoldsWords (event.Gp0 word) = word < 2 ^ 32
HoldsWords (event.Gp1 word) = word < 2 ^ 32
HoldsWords (event.Dma channel madr bcr chcr) = (madr < 2 ^ 32) × (bcr < 2 ^ 32) × (chcr < 2 ^ 32)
HoldsWords (event.Begin madr bcr chcr) = (madr < 2 ^ 32) × (bcr < 2 ^ 32) × (chcr < 2 ^ 32)
HoldsWords event.Read = Unit {0}
HoldsWords event.Stat = Unit {0}
HoldsWords event.Turn = Unit {0}
HoldsWords event.Skip = Unit {0}

-- the first version that has the record of an event
abbrev pub first_version : Event → ℕ
first_version (event.Ram address word) = 1
first_version (event.Gp0 word) = 1
first_version (event.Gp1 word) = 1
first_version event.Read = 1
first_version event.Stat = 1
first_version (event.Dma channel madr bcr chcr) = 1
first_version (event.Begin madr bcr chcr) = 2
first_version event.Turn = 2
first_version event.Skip = 2

-- a version allows an event
pub record Allows (version : ℕ) (given : Event) : Type 0 where
  pub known : first_version given ≤ version
  pub event : IsEvent given
  pub words : HoldsWords given

abbrev pub AllowsAll : ℕ → List Event → Type 0
AllowsAll version [] = Unit {0}
AllowsAll version (event ∷ events) = Allows version event × AllowsAll version events

-- ---- the law

-- What is written is read as these events and End, whatever follows it.
abbrev pub WrittenIsRead : Type 0
WrittenIsRead = (version : ℕ) (events : List Event) (rest : List ℕ) → IsVersion version → AllowsAll version events
    → length (written version events) ≤ limit
    → capture (written version events ++ rest)
    ≡ record { version = version; events = events; ending = End; rest = rest }
