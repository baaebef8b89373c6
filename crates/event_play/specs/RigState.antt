-- What contracts see of a rig: the essential state of its GPU, main memory, the running transfer, and the number of
-- events played.
use Rattle.std.specs.Prelude.{◌≡◌, ℕ, List}
use Rattle.gpu_core.specs.Kept.{Kept, kept_of}
use Rattle.gpu_core.specs.Machine.{State, first_state}
use Rattle.list_dma.specs.declared.run.Run.{Run}
use Rattle.list_dma.specs.declared.run.Run.TheVariants as run
use Rattle.ot_clear_dma.specs.Ram.{first_memory}
use Rattle.event_play.specs.Replay.{Replay}
use Rattle.event_play.specs.Step.{Machine}

pub record RigState : Type 0 where
  pub gpu : Kept
  pub ram : List ℕ
  pub running : Run
  pub played : ℕ

-- a new rig
abbrev pub first_rig : RigState
first_rig = record { gpu = kept_of first_state; ram = first_memory; running = run.Idle; played = 0 }

-- a rig agrees with a machine: in the essential state of the GPU, main memory and the running transfer
pub record Stands (rig : RigState) (s : Machine) : Type 0 where
  pub gpu : kept_of s.gpu ≡ rig.gpu
  pub ram : s.ram ≡ rig.ram
  pub running : s.running ≡ rig.running

-- the machine of a rig, with this state of its GPU
abbrev pub machine_of : RigState → State → Machine
machine_of rig s = record { gpu = s; ram = rig.ram; running = rig.running }

-- a rig agrees with a replay: in the machine and the number of events played
pub record StandsFor (rig : RigState) (t : Replay) : Type 0 where
  pub state : Stands rig t.state
  pub played : t.played ≡ rig.played

-- a rig with this essential state of its GPU
abbrev pub with_gpu : RigState → Kept → RigState
with_gpu rig gpu = record rig { gpu = gpu }
