-- The file that cutting a capture writes (our own rule): the state after its first events, the records of the others,
-- and an End record.
use Rattle.std.specs.Prelude.{ℕ, List, ◌++◌}
use Rattle.gpu_capture.specs.Whole.{AreWords}
use Rattle.gpu_capture.specs.Written.{spelled_end}
use Rattle.gpu_capture.specs.declared.event.Event.{Event}
use Rattle.gpu_core.specs.Kept.{kept_of}
use Rattle.event_play.specs.Replay.{Replay}
use Rattle.event_play.specs.RigState.{RigState}
use Rattle.snapshot_words.specs.Outline.{snap_bytes, snapshot_head, outline_words, IsOutline, AreMemories}
use Rattle.snapshot_words.specs.declared.outline.Outline.{Outline}
use Rattle.gpu_capture.specs.Written.{spell}

-- a rig without its memories
abbrev pub outline_of : RigState → Outline
outline_of rig = record {
  played = rig.played;
  regs = rig.gpu.parts.regs;
  pending = rig.gpu.pending;
  load = rig.gpu.parts.load;
  store = rig.gpu.parts.store;
  run = rig.running;
}

-- The file header of a snapshot and the state of a rig. No proof evaluates them.
unfoldable pub rig_bytes : RigState → List ℕ
rig_bytes rig = snapshot_head ++ snap_bytes (outline_of rig) rig.gpu.parts.m rig.ram

-- The state of a rig is in its bounds, and its values fit their words.
pub record IsWritable (rig : RigState) : Type 0 where
  pub outline : IsOutline (outline_of rig)
  pub words : AreWords (outline_words (outline_of rig))
  pub memories : AreMemories (outline_of rig) rig.gpu.parts.m rig.ram

-- the rig after a replay
abbrev pub rig_of : Replay → RigState
rig_of t = record { gpu = kept_of t.state.gpu; ram = t.state.ram; running = t.state.running; played = t.played }

-- the file header and the state after a replay
abbrev pub snapshot : Replay → List ℕ
snapshot t = rig_bytes (rig_of t)

-- the same, then the records of later events, which are not played
abbrev pub begun : Replay → List Event → List ℕ
begun t later = snapshot t ++ spell later

-- the same, then an End record
abbrev pub cut_file : Replay → List Event → List ℕ
cut_file t later = begun t later ++ spelled_end
