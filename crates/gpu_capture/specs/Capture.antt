-- The meaning of a list of bytes as a capture (our own rule): 8 bytes of header, then little-endian words in records.
use Rattle.std.specs.Prelude.{take, ◌≤◌, ℕ, List, [], ◌∷◌, ◌++◌, ◌+◌, ◌^◌, nat_lt, length}
use Rattle.std.specs.Prelude.{drop, Result, Ok, Err, replicate}
use Rattle.std.specs.Prelude.{if◌then◌else◌, codes}
use Rattle.byteorder.specs.Endian.{little_number}
use Rattle.gpu_capture.specs.declared.event.Event.{Event}
use Rattle.gpu_capture.specs.declared.event.Stop.{Stop}
use Rattle.gpu_capture.specs.declared.event.Stop.TheVariants.{NotCapture, Truncated, TooLong}
use Rattle.gpu_capture.specs.declared.record.Expected.{Expected}
use Rattle.gpu_capture.specs.declared.record.Expected.TheVariants.{Tag}
use Rattle.gpu_capture.specs.declared.record.Step.{Step}
use Rattle.gpu_capture.specs.declared.record.Step.TheVariants.{Opens, Gives, Closes}
use Rattle.gpu_capture.specs.Head.{head_among}
use Rattle.gpu_capture.specs.Record.{word_step}

-- The meaning of a capture: its version (0 if unknown), its events, how it ends, and the bytes after the end.
pub record Captured : Type 0 where
  pub version : ℕ
  pub events : List Event
  pub ending : Stop
  pub rest : List ℕ

abbrev pub ended : ℕ → Stop → List ℕ → Captured
ended version stop rest = record { version = version; events = []; ending = stop; rest = rest }

-- these events, then the meaning of the bytes after them
abbrev pub then_events : List Event → Captured → Captured
then_events events more = record more { events = events ++ more.events }

-- no word begins at this byte offset or after it
abbrev pub limit : ℕ
limit = 2 ^ 30

-- the meaning of a step and of the bytes after its word
abbrev pub after_step : ℕ → Step → (Expected → Captured) → List ℕ → Captured
after_step version (Opens next) on bytes = on next
after_step version (Gives event count next) on bytes = then_events (replicate count event) (on next)
after_step version (Closes stop) on bytes = ended version stop bytes

-- The meaning of the bytes from offset `offset` on, if `at` is what the next word is. At the limit the capture is too
-- long, even if no bytes are left. Before it, fewer than four bytes are truncated at their end.
abbrev pub records : ℕ → Expected → ℕ → List ℕ → Captured
records version at offset (a ∷ b ∷ c ∷ d ∷ bytes) =
    if nat_lt offset limit
    then after_step version (word_step version at offset (little_number 4 (a ∷ b ∷ c ∷ d ∷ [])))
    (λ next. records version next (offset + 4) bytes) bytes
    else ended version (TooLong limit) (a ∷ b ∷ c ∷ d ∷ bytes)
records version at offset bytes =
    if nat_lt offset limit then ended version (Truncated (offset + length bytes)) []
    else ended version (TooLong limit) bytes

-- ---- the header

-- the known versions
abbrev pub IsVersion : ℕ → Type 0
IsVersion version = (1 ≤ version) × (version ≤ 3)

-- the character of a digit
abbrev pub digit_of : ℕ → ℕ
digit_of n = 48 + n

-- the file header of a version
abbrev pub head_of : ℕ → List ℕ
head_of version = codes "PSXGPUC" ++ digit_of version ∷ []

-- the known file headers, in the order of their versions
abbrev pub heads : List (List ℕ)
heads = head_of 1 ∷ head_of 2 ∷ head_of 3 ∷ []

-- versions are numbered from 1, heads from 0
abbrev pub numbered_version : Result ℕ ℕ → Result ℕ ℕ
numbered_version (Ok number) = Ok (number + 1)
numbered_version (Err offset) = Err offset

-- the version of a file header, or the first offset at which the bytes differ from every header
abbrev pub head_version : List ℕ → Result ℕ ℕ
head_version bytes = numbered_version (head_among heads bytes)

abbrev pub opened : Result ℕ ℕ → List ℕ → Captured
opened (Ok version) bytes = records version Tag 8 bytes
opened (Err offset) bytes = ended 0 (NotCapture offset) bytes

-- The meaning of a whole capture. Fewer than 8 bytes are truncated, even if they differ from every header.
abbrev pub capture : List ℕ → Captured
capture bytes =
    if nat_lt (length bytes) 8 then ended 0 (Truncated (length bytes)) []
    else opened (head_version (take 8 bytes)) (drop 8 bytes)
