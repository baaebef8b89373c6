-- Whole records, and their meaning (our own rule).
use Rattle.std.specs.Prelude.{◌≡◌, ◌≤◌, ◌<◌, ℕ, List, [], ◌∷◌, ◌++◌, ◌+◌, ◌*◌, ◌%◌, ◌^◌, flat_map, length, map}
use Rattle.std.specs.Prelude.{replicate}
use Rattle.gpu_capture.specs.Capture.{capture, head_of, IsVersion, limit}
use Rattle.gpu_capture.specs.Record.{IsChannel, memory_bytes, memory_words, most_repeats}
use Rattle.gpu_capture.specs.Written.{word_bytes, tag_of, spelled_end}
use Rattle.gpu_capture.specs.declared.event.Event.{Event}
use Rattle.gpu_capture.specs.declared.event.Event.TheVariants as event
use Rattle.gpu_capture.specs.declared.event.Stop.TheVariants.{End}

-- a record: its kind, its count or words, and its payload
pub data Record : Type 0 where
  Ram : (address : ℕ) → (words : List ℕ) → Record
  Gp0 : (words : List ℕ) → Record
  Gp1 : (word : ℕ) → Record
  Reads : (count : ℕ) → Record
  Stat : Record
  Dma : (channel : ℕ) → (madr : ℕ) → (bcr : ℕ) → (chcr : ℕ) → Record
  Begin : (madr : ℕ) → (bcr : ℕ) → (chcr : ℕ) → Record
  Turns : (count : ℕ) → Record
  Skips : (count : ℕ) → Record

-- the words of a record
abbrev pub words_in : Record → List ℕ
words_in (Ram address words) = tag_of 1 (length words) ∷ address ∷ words
words_in (Gp0 words) = tag_of 2 (length words) ∷ words
words_in (Gp1 word) = tag_of 3 1 ∷ word ∷ []
words_in (Reads count) = tag_of 4 count ∷ []
words_in Stat = tag_of 5 1 ∷ []
words_in (Dma channel madr bcr chcr) = tag_of 6 channel ∷ madr ∷ bcr ∷ chcr ∷ []
words_in (Begin madr bcr chcr) = tag_of 7 2 ∷ madr ∷ bcr ∷ chcr ∷ []
words_in (Turns count) = tag_of 8 count ∷ []
words_in (Skips count) = tag_of 9 count ∷ []

-- words for an address and the following ones
abbrev pub words_from : (address : ℕ) → List ℕ → List Event
words_from address [] = []
words_from address (word ∷ words) = event.Ram address word ∷ words_from (address + 4) words

-- the events of a record
abbrev pub events_in : Record → List Event
events_in (Ram address words) = words_from address words
events_in (Gp0 words) = map event.Gp0 words
events_in (Gp1 word) = event.Gp1 word ∷ []
events_in (Reads count) = replicate count event.Read
events_in Stat = event.Stat ∷ []
events_in (Dma channel madr bcr chcr) = event.Dma channel madr bcr chcr ∷ []
events_in (Begin madr bcr chcr) = event.Begin madr bcr chcr ∷ []
events_in (Turns count) = replicate count event.Turn
events_in (Skips count) = replicate count event.Skip

abbrev pub AreWords : List ℕ → Type 0
AreWords [] = Unit {0}
AreWords (word ∷ words) = (word < 2 ^ 32) × AreWords words

abbrev pub IsCount : ℕ → Type 0
IsCount count = (1 ≤ count) × (count ≤ most_repeats)

-- a record that a version allows
abbrev pub IsRecord : ℕ → Record → Type 0
IsRecord version (Ram address words) =
    (1 ≤ length words) × (length words ≤ memory_words) × (address % 4 ≡ 0) × (address + 4 * length words ≤ memory_bytes)
    × AreWords words
IsRecord version (Gp0 words) = (1 ≤ length words) × (length words < 2 ^ 24) × AreWords words
IsRecord version (Gp1 word) = word < 2 ^ 32
IsRecord version (Reads count) = IsCount count
IsRecord version Stat = Unit {0}
IsRecord version (Dma channel madr bcr chcr) = IsChannel channel × (madr < 2 ^ 32) × (bcr < 2 ^ 32) × (chcr < 2 ^ 32)
IsRecord version (Begin madr bcr chcr) = (2 ≤ version) × (madr < 2 ^ 32) × (bcr < 2 ^ 32) × (chcr < 2 ^ 32)
IsRecord version (Turns count) = (2 ≤ version) × IsCount count
IsRecord version (Skips count) = (2 ≤ version) × IsCount count

abbrev pub AreRecords : ℕ → List Record → Type 0
AreRecords version [] = Unit {0}
AreRecords version (given ∷ others) = IsRecord version given × AreRecords version others

abbrev pub record_bytes : Record → List ℕ
record_bytes given = flat_map word_bytes (words_in given)

-- A header, records that its version allows, and an End record are read as the events of the records and End, whatever
-- follows.
abbrev pub RecordsAreRead : Type 0
RecordsAreRead = (version : ℕ) (given : List Record) (rest : List ℕ) → IsVersion version → AreRecords version given
    → length (head_of version ++ flat_map record_bytes given ++ spelled_end) ≤ limit
    → capture ((head_of version ++ flat_map record_bytes given ++ spelled_end) ++ rest)
    ≡ record { version = version; events = flat_map events_in given; ending = End; rest = rest }
