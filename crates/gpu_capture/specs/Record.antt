-- The records of a capture, word by word (our own rule). A record begins with a tag: kind in bits 24 to 31, count in
-- bits 0 to 23.
--   0 End       count 0, no payload
--   1 Ram       count 1 to 524288: an address, then count words for that address and the following ones
--   2 Gp0       count 1 to 16777215: count words
--   3 Gp1       count 1: one word
--   4 Read      count 1 to 262144: count reads, no payload
--   5 Stat      count 1, no payload
--   6 Dma       count 2 or 6, the channel: the values of MADR, BCR and CHCR
-- and from version 2 on
--   7 Begin     count 2, the channel: the values of MADR, BCR and CHCR
--   8 Turn      count 1 to 262144: count turns, no payload
--   9 Skip      count 1 to 262144: count reads that are not printed, no payload
use Rattle.std.specs.Prelude.{Bool, ◌≡◌, ◌≤◌, ◌<◌, ◌⊎◌, ℕ, ◌+◌, ◌-◌, ◌*◌, ◌/◌, ◌%◌, ◌^◌, ◌==◌, ◌&&◌, ◌||◌, nat_lt}
use Rattle.std.specs.Prelude.{nat_le}
use Rattle.std.specs.Prelude.{if◌then◌else◌}
use Rattle.gpu_capture.specs.declared.event.Event.{Event}
use Rattle.gpu_capture.specs.declared.event.Event.TheVariants as event
use Rattle.gpu_capture.specs.declared.event.Stop.{Stop}
use Rattle.gpu_capture.specs.declared.event.Stop.TheVariants.{End, BadRecord}
use Rattle.gpu_capture.specs.declared.record.Expected.{Expected}
use Rattle.gpu_capture.specs.declared.record.Expected.TheVariants as expected
use Rattle.gpu_capture.specs.declared.record.Start.{Start}
use Rattle.gpu_capture.specs.declared.record.Start.TheVariants as start
use Rattle.gpu_capture.specs.declared.record.Step.{Step}
use Rattle.gpu_capture.specs.declared.record.Step.TheVariants.{Opens, Gives, Closes}

-- the size of main memory in bytes and in words
abbrev pub memory_bytes : ℕ
memory_bytes = 0x200000

abbrev pub memory_words : ℕ
memory_words = 524288

-- the largest count of a record without payload
abbrev pub most_repeats : ℕ
most_repeats = 262144

abbrev pub is_repeats : ℕ → Bool
is_repeats count = nat_le 1 count && nat_le count most_repeats

abbrev pub kind_of : ℕ → ℕ
kind_of tag = tag / 2 ^ 24

abbrev pub count_of : ℕ → ℕ
count_of tag = tag % 2 ^ 24

-- what a tag at byte offset `offset` does
abbrev pub tag_step : ℕ → ℕ → ℕ → Step
tag_step version offset tag =
    let kind = kind_of tag in
    let count = count_of tag in
    if kind == 0 && (count == 0) then Closes End else
    (if kind == 1 && (nat_le 1 count && nat_le count memory_words) then Opens (expected.Address count) else
    (if kind == 2 && nat_le 1 count then Opens (expected.Gp0 count) else
    (if kind == 3 && (count == 1) then Opens expected.Gp1 else
    (if kind == 4 && is_repeats count then Gives event.Read count expected.Tag else
    (if kind == 5 && (count == 1) then Gives event.Stat 1 expected.Tag else
    (if kind == 6 && ((count == 2) || (count == 6)) then Opens (expected.Madr (start.Dma count)) else
    (if kind == 7 && (nat_le 2 version && (count == 2)) then Opens (expected.Madr start.Begin) else
    (if kind == 8 && (nat_le 2 version && is_repeats count) then Gives event.Turn count expected.Tag else
    (if kind == 9 && (nat_le 2 version && is_repeats count) then Gives event.Skip count expected.Tag else
    Closes (BadRecord offset tag))))))))))

-- the address of a Ram record: a multiple of 4, and all words of the record are below 200000h
abbrev pub address_step : ℕ → ℕ → ℕ → Step
address_step offset count address =
    if (address % 4 == 0) && nat_le (address + 4 * count) memory_bytes then Opens (expected.Ram address count)
    else Closes (BadRecord offset address)

-- what follows the first of `left` words
abbrev pub ram_expected : ℕ → ℕ → Expected
ram_expected address left = if nat_lt 1 left then expected.Ram (address + 4) (left - 1) else expected.Tag

abbrev pub gp0_expected : ℕ → Expected
gp0_expected left = if nat_lt 1 left then expected.Gp0 (left - 1) else expected.Tag

-- the event of a start with these register values
abbrev pub started_by : Start → (madr bcr chcr : ℕ) → Event
started_by (start.Dma channel) madr bcr chcr = event.Dma channel madr bcr chcr
started_by start.Begin madr bcr chcr = event.Begin madr bcr chcr

-- what a word at byte offset `offset` does, by what it is
abbrev pub word_step : ℕ → Expected → ℕ → ℕ → Step
word_step version expected.Tag offset word = tag_step version offset word
word_step version (expected.Address count) offset word = address_step offset count word
word_step version (expected.Ram address left) offset word = Gives (event.Ram address word) 1 (ram_expected address left)
word_step version (expected.Gp0 left) offset word = Gives (event.Gp0 word) 1 (gp0_expected left)
word_step version expected.Gp1 offset word = Gives (event.Gp1 word) 1 expected.Tag
word_step version (expected.Madr by) offset word = Opens (expected.Bcr by word)
word_step version (expected.Bcr by madr) offset word = Opens (expected.Chcr by madr word)
word_step version (expected.Chcr by madr bcr) offset word = Gives (started_by by madr bcr word) 1 expected.Tag

-- ---- bounds

-- a channel that a capture can start
abbrev pub IsChannel : ℕ → Type 0
IsChannel channel = (channel ≡ 2) ⊎ (channel ≡ 6)

abbrev pub IsBy : Start → Type 0
IsBy (start.Dma channel) = IsChannel channel
IsBy start.Begin = Unit {0}

-- the bounds of what the next word is
abbrev pub IsExpected : Expected → Type 0
IsExpected expected.Tag = Unit {0}
IsExpected (expected.Address count) = (1 ≤ count) × (count ≤ memory_words)
IsExpected (expected.Ram address left) = (1 ≤ left) × (address + 4 * left ≤ memory_bytes) × (address % 4 ≡ 0)
IsExpected (expected.Gp0 left) = (1 ≤ left) × (left < 2 ^ 24)
IsExpected expected.Gp1 = Unit {0}
IsExpected (expected.Madr by) = IsBy by
IsExpected (expected.Bcr by madr) = IsBy by
IsExpected (expected.Chcr by madr bcr) = IsBy by

-- the meaning of a word that decides a stop
abbrev pub IsWordStop : Stop → Type 0
IsWordStop End = Unit {0}
IsWordStop (BadRecord byte word) = Unit {0}
IsWordStop stop = ⊥

-- the bounds of an event: an address of main memory, a channel that can be started
abbrev pub IsEvent : Event → Type 0
IsEvent (event.Ram address word) = (address < memory_bytes) × (address % 4 ≡ 0)
IsEvent (event.Gp0 word) = Unit {0}
IsEvent (event.Gp1 word) = Unit {0}
IsEvent event.Read = Unit {0}
IsEvent event.Stat = Unit {0}
IsEvent (event.Dma channel madr bcr chcr) = IsChannel channel
IsEvent (event.Begin madr bcr chcr) = Unit {0}
IsEvent event.Turn = Unit {0}
IsEvent event.Skip = Unit {0}

-- the bounds of a step
abbrev pub IsStep : Step → Type 0
IsStep (Opens next) = IsExpected next
IsStep (Gives given count next) = IsEvent given × (1 ≤ count) × (count ≤ most_repeats) × IsExpected next
IsStep (Closes stop) = IsWordStop stop
