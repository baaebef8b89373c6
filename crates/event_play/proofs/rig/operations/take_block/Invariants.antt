use Rattle.std.proofs.Common.{◌≡◌}
use Rattle.gpu_core.specs.Kept.{kept_of}
use Rattle.gpu_core.specs.Machine.{State}
use Rattle.event_play.specs.Taken.{first_taken}
use Rattle.event_play.specs.Taking.{Takes}
use Rattle.event_play.proofs.rig.operations.take_block.Given as goal

abbrev pub invariant-loop-i : goal.invariant-loop-i
invariant-loop-i g l = (s : State) → kept_of s ≡ l.initial.gpu
    → Takes (first_taken l.block l.i s l.initial.ram) l.gpu l.ram l.initial.steps l.steps
