-- The kind of a file by its first 8 bytes (our own rule): a capture of one of the versions, or a snapshot.
use Rattle.std.specs.Prelude.{◌≡◌, ◌<◌, ℕ, ◌+◌, List, [], ◌∷◌, ◌++◌, ◌==◌, Option, Result, Ok, Err, length}
use Rattle.std.specs.Prelude.{if◌then◌else◌}
use Rattle.dev_io.specs.Device.{prepended, IsAtEnd}
use Rattle.gpu_capture.specs.Capture.{heads, IsVersion}
use Rattle.gpu_capture.specs.Head.{head_among}
use Rattle.gpu_capture.specs.declared.event.Stop.{Stop}
use Rattle.gpu_capture.specs.declared.event.Stop.TheVariants.{NotCapture, Truncated, ReadFault}
use Rattle.snapshot_words.specs.Outline.{snapshot_head}
use Rattle.gpu_snapshot.specs.declared.head.FileHead.{FileHead}
use Rattle.gpu_snapshot.specs.declared.head.FileHead.TheVariants.{Capture, Snapshot}

-- the known magic numbers: those of captures in the order of their versions, then that of a snapshot
abbrev pub known_heads : List (List ℕ)
known_heads = heads ++ snapshot_head ∷ []

-- captures have the first numbers
abbrev pub numbered_head : Result ℕ ℕ → Result FileHead ℕ
numbered_head (Ok number) = Ok (if number == 3 then Snapshot else Capture (number + 1))
numbered_head (Err offset) = Err offset

-- the kind of a file by its first 8 bytes, or the index of the first byte that fits no known magic number
unfoldable pub file_head : List ℕ → Result FileHead ℕ
file_head bytes = numbered_head (head_among known_heads bytes)

-- the version is known
abbrev pub IsFileHead : FileHead → Type 0
IsFileHead (Capture version) = IsVersion version
IsFileHead Snapshot = Unit {0}

-- ---- reading it

-- a magic number was read
pub record TakesHead (before now : Option (List ℕ)) (head : FileHead) : Type 0 where
  pub taken : List ℕ
  pub bytes : before ≡ prepended taken now
  pub long : length taken ≡ 8
  pub is : file_head taken ≡ Ok head

-- why these bytes are no magic number
abbrev pub SaysNoHead : Stop → (taken : List ℕ) → (now : Option (List ℕ)) → Type 0
SaysNoHead (NotCapture offset) taken now = (length taken ≡ 8) × (file_head taken ≡ Err offset)
SaysNoHead (Truncated byte) taken now = (length taken < 8) × (byte ≡ length taken) × IsAtEnd now
SaysNoHead (ReadFault byte) taken now = (length taken < 8) × (byte ≡ length taken)
SaysNoHead stop taken now = ⊥

-- no magic number was read
pub record StopsInHead (before now : Option (List ℕ)) (stop : Stop) : Type 0 where
  pub taken : List ℕ
  pub bytes : before ≡ prepended taken now
  pub says : SaysNoHead stop taken now
