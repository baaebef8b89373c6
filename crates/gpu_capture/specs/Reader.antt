-- What the steps of a reader read from its source, and the meaning of those bytes by the format.
use Rattle.std.specs.Prelude.{◌≡◌, ◌<◌, ◌≤◌, ℕ, List, [], ◌∷◌, ◌++◌, ◌+◌, ◌-◌, ◌*◌, ◌^◌, nat_lt, Option, length}
use Rattle.std.specs.Prelude.{replicate, if◌then◌else◌, Result, IfErr}
use Rattle.byteorder.specs.Endian.{little_number}
use Rattle.dev_io.specs.Device.{prepended, IsAtEnd, Rose}
use Rattle.gpu_capture.specs.Record.{IsExpected, IsEvent}
use Rattle.gpu_capture.specs.Capture.{Captured, ended, then_events, records, capture, limit}
use Rattle.gpu_capture.specs.declared.event.Event.{Event}
use Rattle.gpu_capture.specs.declared.event.Stop.{Stop}
use Rattle.gpu_capture.specs.declared.event.Stop.TheVariants.{TooLong, Truncated, ReadFault}
use Rattle.gpu_capture.specs.declared.event.Event.TheVariants.{Stat}
use Rattle.gpu_capture.specs.declared.record.Expected.{Expected}
use Rattle.gpu_capture.specs.declared.record.Expected.TheVariants.{Tag}
use Rattle.gpu_capture.specs.declared.progress.Progress.{Progress}

-- the state of a reader, and the bytes left in its source
pub record ReaderInput : Type 0 where
  pub progress : Progress
  pub left : Option (List ℕ)

abbrev pub reader_input : Progress → Option (List ℕ) → ReaderInput
reader_input progress left = record { progress = progress; left = left }

-- the four bytes of a word were read, at an offset below the limit
pub record IsWord (before now : Option (List ℕ)) (offset word : ℕ) : Type 0 where
  pub below_limit : offset < limit
  pub a : ℕ
  pub b : ℕ
  pub c : ℕ
  pub d : ℕ
  pub bytes : before ≡ prepended (a ∷ b ∷ c ∷ d ∷ []) now
  pub word_is : word ≡ little_number 4 (a ∷ b ∷ c ∷ d ∷ [])

abbrev pub IsReadFault : Stop → Type 0
IsReadFault (ReadFault byte) = Unit {0}
IsReadFault stop = ⊥

-- The source's count of faults does not fall. It rose if `result` is a failure for which `IsRead` holds.
pub record CountsFaults {Value Fault : Type 0} (IsRead : Fault → Type 0) (before now : ℕ) (result : Result Value Fault)
    : Type 0 where
  pub kept : before ≤ now
  pub cause : IfErr result (λ fault. IsRead fault → Rose before now)

-- why no word could be read at offset `offset`, after `taken`, fewer than 4 bytes of it
abbrev pub SaysNoWord : Stop → ℕ → List ℕ → Option (List ℕ) → Type 0
SaysNoWord (TooLong byte) offset taken now = (byte ≡ limit) × (limit ≤ offset) × (taken ≡ [])
SaysNoWord (Truncated byte) offset taken now =
    (offset < limit) × (length taken < 4) × (byte ≡ offset + length taken) × IsAtEnd now
SaysNoWord (ReadFault byte) offset taken now = (offset < limit) × (length taken < 4) × (byte ≡ offset + length taken)
SaysNoWord stop offset taken now = ⊥

-- reading a word ended with this stop
pub record EndsWord (before now : Option (List ℕ)) (offset : ℕ) (stop : Stop) : Type 0 where
  pub taken : List ℕ
  pub bytes : before ≡ prepended taken now
  pub says : SaysNoWord stop offset taken now

-- the bounds of a reader's state
pub record IsProgress (p : Progress) : Type 0 where
  pub expected : IsExpected p.expected
  pub offset : p.offset < 2 ^ 31
  pub left : p.left < 2 ^ 18
  pub repeated : IsEvent p.repeated
  pub version : p.version ≤ 3
  pub start : p.version ≡ 0 → p.offset ≡ 0

-- the same after the header
pub record IsAfterHead (p : Progress) : Type 0 where
  pub bounds : IsProgress p
  pub started : 1 ≤ p.version

-- the meaning of the bytes that follow a reader's state
abbrev pub capture_from : Progress → List ℕ → Captured
capture_from p bytes =
    if nat_lt 0 p.version then then_events (replicate p.left p.repeated) (records p.version p.expected p.offset bytes)
    else capture bytes

-- bounds the events and words that remain; each of them lowers it
unfoldable pub work_left : Progress → ℕ
work_left p = (2 ^ 31 - p.offset) * 2 ^ 19 + p.left

-- after `old`, these bytes give no event and are truncated
pub record IsCutShort (old : Progress) (bytes : List ℕ) : Type 0 where
  pub version : ℕ
  pub byte : ℕ
  pub is : capture_from old bytes ≡ ended version (Truncated byte) []

-- All of these bytes are needed: any proper prefix of them gives no event and is truncated.
abbrev pub AreNeeded : Progress → List ℕ → Type 0
AreNeeded p taken = (part more : List ℕ) → taken ≡ part ++ more → (more ≡ [] → ⊥) → IsCutShort p part

-- Needed bytes were read and `events` were returned. By the format, those bytes and any rest mean these events and then
-- the meaning of the rest after the new state.
pub record Takes (before now : ReaderInput) (events : List Event) : Type 0 where
  pub taken : List ℕ
  pub bytes : before.left ≡ prepended taken now.left
  pub needed : AreNeeded before.progress taken
  pub says : (rest : List ℕ)
      → capture_from before.progress (taken ++ rest) ≡ then_events events (capture_from now.progress rest)

-- The meaning of the bytes read if a reader stops, in a capture of this version. If the source failed or ended, the
-- bytes read are truncated. Otherwise they decide the stop, whatever bytes follow.
abbrev pub SaysStop : Stop → Progress → ℕ → List ℕ → Option (List ℕ) → Type 0
SaysStop (ReadFault byte) old version taken now = capture_from old taken ≡ ended version (Truncated byte) []
SaysStop (Truncated byte) old version taken now =
    (capture_from old taken ≡ ended version (Truncated byte) []) × IsAtEnd now
SaysStop stop old version taken now = (rest : List ℕ) → capture_from old (taken ++ rest) ≡ ended version stop rest

-- needed bytes were read, no event was returned, and they mean this stop
pub record StopsAt (before now : ReaderInput) (stop : Stop) : Type 0 where
  pub taken : List ℕ
  pub bytes : before.left ≡ prepended taken now.left
  pub needed : AreNeeded before.progress taken
  pub says : SaysStop stop before.progress now.progress.version taken now.left

-- the state of a new reader
pub record IsStart (p : Progress) : Type 0 where
  pub version : p.version ≡ 0
  pub offset : p.offset ≡ 0
  pub left : p.left ≡ 0

-- the state of a reader that reads a tag next
abbrev pub tag_expected : ℕ → ℕ → Progress
tag_expected version offset = record { version = version; offset = offset; expected = Tag; repeated = Stat; left = 0 }

-- the state of a reader after a word
abbrev pub progress_after_word : Progress → Expected → Event → ℕ → Progress
progress_after_word p expected repeated left =
    record { version = p.version; offset = p.offset + 4; expected = expected; repeated = repeated; left = left }
