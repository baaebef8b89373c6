-- Opening a file: the bytes that are read, and what they contain.
use Rattle.std.specs.Prelude.{◌≡◌, ◌≤◌, ℕ, ◌+◌, ◌*◌, List, [], ◌++◌, None, Result, Ok, if◌then◌else◌, length, take}
use Rattle.std.specs.Prelude.{drop, nat_lt, Option}
use Rattle.dev_io.specs.Device.{prepended, IsAtEnd}
use Rattle.gpu_capture.specs.Capture.{IsVersion}
use Rattle.gpu_capture.specs.Reader.{tag_expected}
use Rattle.gpu_capture.specs.State.{ReaderState}
use Rattle.gpu_capture.specs.declared.event.Stop.TheVariants.{NotCapture, Truncated, ReadFault}
use Rattle.event_play.specs.Replay.{Replay, raised}
use Rattle.event_play.specs.RigState.{RigState, first_rig, Stands, StandsFor}
use Rattle.snapshot_words.specs.Outline.{snapshot_head, snap_bytes}
use Rattle.snapshot_words.specs.Reading.{Snapshot}
use Rattle.snapshot_words.specs.declared.fault.SnapFault.{SnapFault}
use Rattle.snapshot_words.specs.declared.fault.SnapFault.TheVariants as fault
use Rattle.gpu_snapshot.specs.Head.{file_head}
use Rattle.gpu_snapshot.specs.Intake.{Intake}
use Rattle.gpu_snapshot.specs.Opened.{Opened, Captured, Restored, Unknown, BreaksOff, BadWord, opened}
use Rattle.gpu_snapshot.specs.Restored.{rig_in, machine_in, reader_after, state_cost}
use Rattle.gpu_snapshot.specs.declared.head.FileHead.{FileHead}
use Rattle.gpu_snapshot.specs.declared.head.FileHead.TheVariants as head

-- the maximum steps of opening: those of reading a state, if there is one
abbrev pub cost_after : Result FileHead ℕ → List ℕ → ℕ
cost_after (Ok head.Snapshot) bytes = state_cost bytes
cost_after other bytes = 0

unfoldable pub opening_cost : List ℕ → ℕ
opening_cost bytes =
    if nat_lt (length bytes) 8 then 0 else cost_after (file_head (take 8 bytes)) (drop 8 bytes)

-- the bytes end too early
abbrev pub IsTooShort : Opened → Type 0
IsTooShort (BreaksOff offset) = Unit {0}
IsTooShort found = ⊥

-- each of these bytes is needed: a proper part of them is too short for a magic number, or for a state
abbrev pub AreNeeded : List ℕ → Type 0
AreNeeded taken = (part more : List ℕ) → taken ≡ part ++ more → (more ≡ [] → ⊥) → IsTooShort (opened part)

-- The magic number of a capture was read, and no byte more. The machine is new, with 1024 rows for version 3. The
-- reader is at the first record.
pub record OpensCapture (before now : Intake) (rig : RigState) (reader : ReaderState) : Type 0 where
  pub version : ℕ
  pub known : IsVersion version
  pub taken : List ℕ
  pub bytes : before.left ≡ prepended taken now.left
  pub needed : AreNeeded taken
  pub says : (rest : List ℕ) → opened (taken ++ rest) ≡ Captured version rest
  pub reader_is : reader ≡ record { progress = tag_expected version 8; stop = None }
  pub stands : (t : Replay) → StandsFor first_rig t → StandsFor rig (raised t version)
  pub played : rig.played ≡ 0
  pub cost : now.steps ≡ before.steps

-- The magic number of a snapshot and the bytes of its state were read, and no byte more. The machine is in that state,
-- and the reader is after it.
pub record OpensState (before now : Intake) (rig : RigState) (reader : ReaderState) : Type 0 where
  pub snapshot : Snapshot
  pub offset : ℕ
  pub taken : List ℕ
  pub taken_is : taken ≡ snapshot_head ++ snap_bytes snapshot.outline snapshot.m snapshot.ram
  pub bytes : before.left ≡ prepended taken now.left
  pub needed : AreNeeded taken
  pub says : (rest : List ℕ) → opened (taken ++ rest) ≡ Restored snapshot offset rest
  pub reader_is : reader ≡ reader_after snapshot.outline.regs.height offset
  pub rig_is : rig ≡ rig_in snapshot
  pub stands : Stands rig (machine_in snapshot)
  pub cost : now.steps ≤ before.steps + 64 * snapshot.outline.regs.height
  pub cost_is : (rest : List ℕ) → opening_cost (taken ++ rest) ≡ 64 * snapshot.outline.regs.height

-- why a file is not opened, given the bytes read
abbrev pub SaysRefusal : SnapFault → (taken : List ℕ) → (now : Option (List ℕ)) → Type 0
SaysRefusal (fault.Stop (NotCapture byte)) taken now = (rest : List ℕ) → opened (taken ++ rest) ≡ Unknown byte rest
SaysRefusal (fault.Stop (Truncated byte)) taken now = (opened taken ≡ BreaksOff byte) × IsAtEnd now
SaysRefusal (fault.Stop (ReadFault byte)) taken now = opened taken ≡ BreaksOff byte
SaysRefusal (fault.Stop stop) taken now = ⊥
SaysRefusal (fault.Bad byte word) taken now = (rest : List ℕ) → opened (taken ++ rest) ≡ BadWord byte word

-- bytes were read, each of them needed, and the file is refused
pub record Refuses (before now : Intake) (why : SnapFault) : Type 0 where
  pub taken : List ℕ
  pub bytes : before.left ≡ prepended taken now.left
  pub needed : AreNeeded taken
  pub says : SaysRefusal why taken now.left
  pub cost : (rest : List ℕ) → now.steps ≤ before.steps + opening_cost (taken ++ rest)
