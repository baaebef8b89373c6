-- A machine and a reader after a state was read (our own rule).
use Rattle.std.specs.Prelude.{◌≡◌, ◌≤◌, ℕ, ◌+◌, ◌*◌, List, ◌++◌, ◌==◌, if◌then◌else◌, None, length}
use Rattle.px_num.specs.Height.{tall_height}
use Rattle.dev_io.specs.Device.{prepended}
use Rattle.gpu_capture.specs.Reader.{tag_expected}
use Rattle.gpu_capture.specs.State.{ReaderState}
use Rattle.gpu_core.specs.Kept.{kept_of, kept_with, state_with}
use Rattle.event_play.specs.Replay.{tall_version}
use Rattle.event_play.specs.RigState.{RigState, Stands}
use Rattle.event_play.specs.Step.{Machine}
use Rattle.gpu_snapshot.specs.Intake.{Intake}
use Rattle.snapshot_words.specs.Outline.{snap_bytes}
use Rattle.snapshot_words.specs.Reading.{Found, Whole, Short, Bad, Snapshot, outline_from, state_from}
use Rattle.snapshot_words.specs.Taking.{SaysFault, AreNeeded}
use Rattle.snapshot_words.specs.declared.fault.SnapFault.{SnapFault}
use Rattle.snapshot_words.specs.declared.outline.Outline.{Outline}

-- a state begins after the magic number
abbrev pub first_offset : ℕ
first_offset = 8

-- the rig of a state
abbrev pub rig_in : Snapshot → RigState
rig_in s = record {
  gpu = kept_with s.m s.outline.regs s.outline.pending s.outline.load s.outline.store;
  ram = s.ram;
  running = s.outline.run;
  played = s.outline.played;
}

-- the machine of a state: its GP0 words are one list that leaves what is pending
abbrev pub machine_in : Snapshot → Machine
machine_in s = record { gpu = state_with (rig_in s).gpu; ram = s.ram; running = s.outline.run }

-- the records after a state are those of a capture of version 3 if video memory has 1024 rows, and else of version 2
abbrev pub version_after : (height : ℕ) → ℕ
version_after height = if height == tall_height then tall_version else 2

-- the reader of the records after a state that ends at `offset`
abbrev pub reader_after : (height offset : ℕ) → ReaderState
reader_after height offset = record { progress = tag_expected (version_after height) offset; stop = None }

-- ---- setting it

-- a rig has everything of a state except for its memories, and these have their sizes; it represents some machine
pub record HoldsOutline (rig : RigState) (o : Outline) : Type 0 where
  pub gpu : rig.gpu ≡ kept_with rig.gpu.parts.m o.regs o.pending o.load o.store
  pub running : rig.running ≡ o.run
  pub played : rig.played ≡ o.played
  pub rows : length rig.gpu.parts.m ≡ 1024 * o.regs.height
  pub words : length rig.ram ≡ 524288
  pub stands : kept_of (state_with rig.gpu) ≡ rig.gpu

-- ---- reading it

-- the rows of video memory of the outline that was read; 0 if none was read completely
abbrev pub rows_found : Found Outline → ℕ
rows_found (Whole o offset rest) = o.regs.height
rows_found (Short offset) = 0
rows_found (Bad offset word) = 0

-- the maximum steps of reading a state: one for each sixteen cells
unfoldable pub state_cost : (bytes : List ℕ) → ℕ
state_cost bytes = 64 * rows_found (outline_from first_offset bytes)

-- The bytes of a state were read, and no byte more. The rig is in that state, and the reader is after it.
pub record Restores (before now : Intake) (rig : RigState) (reader : ReaderState) : Type 0 where
  pub snapshot : Snapshot
  pub offset : ℕ
  pub bytes : before.left ≡ prepended (snap_bytes snapshot.outline snapshot.m snapshot.ram) now.left
  pub needed : AreNeeded (state_from first_offset) (snap_bytes snapshot.outline snapshot.m snapshot.ram)
  pub says : (rest : List ℕ) → state_from first_offset (snap_bytes snapshot.outline snapshot.m snapshot.ram ++ rest)
      ≡ Whole snapshot offset rest
  pub rig_is : rig ≡ rig_in snapshot
  pub stands : Stands rig (machine_in snapshot)
  pub reader_is : reader ≡ reader_after snapshot.outline.regs.height offset
  pub cost : now.steps ≤ before.steps + 64 * snapshot.outline.regs.height
  pub cost_is : (rest : List ℕ) → state_cost (snap_bytes snapshot.outline snapshot.m snapshot.ram ++ rest)
      ≡ 64 * snapshot.outline.regs.height

-- bytes were read that are no state, each of them needed
pub record StopsInState (before now : Intake) (why : SnapFault) : Type 0 where
  pub taken : List ℕ
  pub bytes : before.left ≡ prepended taken now.left
  pub needed : AreNeeded (state_from first_offset) taken
  pub says : SaysFault why (state_from first_offset) taken now.left
  pub cost : (rest : List ℕ) → now.steps ≤ before.steps + state_cost (taken ++ rest)
