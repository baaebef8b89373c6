-- Writing a machine as a snapshot in memory, and reading one.
use Rattle.std.specs.Prelude.{◌≡◌, ◌⊎◌, ◌++◌, ◌^◌, ℕ, Bool, true, false, List, Option, Some, None, Result, Err, OnOk}
use Rattle.std.specs.Prelude.{nat_lt}
use Rattle.capture_cut.specs.File.{rig_bytes}
use Rattle.event_play.specs.Replay.{Replay, raised}
use Rattle.event_play.specs.RigState.{RigState, Stands, StandsFor, first_rig}
use Rattle.gpu_capture.specs.Written.{spelled_end}
use Rattle.gpu_capture.specs.declared.event.Stop.TheVariants as stop
use Rattle.gpu_snapshot.specs.Opened.{Opened, Captured, Restored, Unknown, BreaksOff, BadWord, opened}
use Rattle.gpu_snapshot.specs.Restored.{machine_in, rig_in}
use Rattle.snapshot_words.specs.declared.fault.SnapFault.{SnapFault}
use Rattle.snapshot_words.specs.declared.fault.SnapFault.TheVariants as snap
use Rattle.psxgpu_c.specs.Codes.{told_by}
use Rattle.psxgpu_c.specs.Shown.{Puts}
use Rattle.psxgpu_c.specs.declared.ended.Ended.{Ended}
use Rattle.psxgpu_c.specs.declared.refusal.Refusal.{Refusal}
use Rattle.psxgpu_c.specs.declared.refusal.Refusal.TheVariants as refusal

-- the magic number of a snapshot, the state of a rig, and an End record: what cutting writes if no event remains
abbrev pub saved : RigState → List ℕ
saved rig = rig_bytes rig ++ spelled_end

-- fewer than 2^63 events were played: a snapshot counts no more
abbrev pub can_be_saved : RigState → Bool
can_be_saved rig = nat_lt rig.played (2 ^ 63)

-- ---- loading

-- the rig is in the state of a snapshot, or in the first state for a capture
abbrev pub IsOpened : Opened → RigState → Type 0
IsOpened (Captured version rest) rig =
    ((t : Replay) → StandsFor first_rig t → StandsFor rig (raised t version)) × (rig.played ≡ 0)
IsOpened (Restored s place rest) rig = (rig ≡ rig_in s) × Stands rig (machine_in s)
IsOpened other rig = ⊥

-- why bytes cannot be opened, given what they are
abbrev pub fault_of : Opened → Option SnapFault
fault_of (Captured version rest) = None
fault_of (Restored s place rest) = None
fault_of (Unknown place rest) = Some (snap.Stop (stop.NotCapture place))
fault_of (BreaksOff place) = Some (snap.Stop (stop.Truncated place))
fault_of (BadWord place word) = Some (snap.Bad place word)

-- The rig is what the bytes describe. Or it is unchanged, because they are neither a snapshot nor a capture, or memory
-- ran out.
abbrev pub Loads : (bytes : List ℕ) → (was rig : RigState) → (why : Option Refusal) → Type 0
Loads bytes was rig None = IsOpened (opened bytes) rig
Loads bytes was rig (Some refusal.NoMemory) = rig ≡ was
Loads bytes was rig (Some (refusal.Unopened fault)) = (rig ≡ was) × (fault_of (opened bytes) ≡ Some fault)
Loads bytes was rig (Some other) = ⊥

-- the same for a handle
abbrev pub LoadsHeld : (before now : Option RigState) → (bytes : List ℕ) → (why : Option Refusal) → Type 0
LoadsHeld (Some was) (Some rig) bytes why = Loads bytes was rig why
LoadsHeld (Some was) None bytes why = ⊥
LoadsHeld None now bytes why = (now ≡ None) × (why ≡ Some refusal.Closed)

-- the same, and its details
pub record TellsLoad (before now : Option RigState) (bytes : List ℕ) (told : Ended) : Type 0 where
  pub why : Option Refusal
  pub loads : LoadsHeld before now bytes why
  pub is_told : told ≡ told_by why

-- ---- saving

-- Any machine that loads these bytes becomes this one, unless memory runs out.
abbrev pub AreLoadedAs : RigState → (bytes : List ℕ) → Type 0
AreLoadedAs rig bytes = (was now : RigState) (why : Option Refusal) → Loads bytes was now why
    → ((why ≡ None) × (now ≡ rig)) ⊎ ((why ≡ Some refusal.NoMemory) × (now ≡ was))

-- The snapshot of the rig was written to the start, and loads as the rig. Or the buffer is too short, or memory ran
-- out; or too many events were played.
abbrev pub SavesWhere : (can : Bool) → RigState → (before now : List ℕ) → Result ℕ Refusal → Type 0
SavesWhere true rig before now answer = Puts (saved rig) before now answer × OnOk answer (AreLoadedAs rig (saved rig))
SavesWhere false rig before now answer = (answer ≡ Err refusal.TooManyEvents) × (now ≡ before)

abbrev pub Saves : RigState → (before now : List ℕ) → Result ℕ Refusal → Type 0
Saves rig before now answer = SavesWhere (can_be_saved rig) rig before now answer

-- the same for a handle
abbrev pub SavesHeld : Option RigState → (before now : List ℕ) → Result ℕ Refusal → Type 0
SavesHeld None before now answer = (answer ≡ Err refusal.Closed) × (now ≡ before)
SavesHeld (Some rig) before now answer = Saves rig before now answer
