use Rattle.std.proofs.Common.{◌≡◌, ◌+◌, ◌*◌, List, Option, ℕ, drop, length, take}
use Rattle.dev_io.specs.Device.{prepended}
use Rattle.event_play.specs.RigState.{RigState}
use Rattle.gpu_snapshot.specs.Memories.{TakesWords}
use Rattle.gpu_snapshot.proofs.memory.set_block.Given as goal

abbrev pub invariant-words : goal.invariant-words
invariant-words l = record {
  block : (before left : Option (List ℕ))
      → TakesWords before (prepended l.block left) (take (512 * l.b) l.initial.rig.ram)
      → TakesWords before (prepended (drop (4 * l.k) l.block) left) (take (512 * l.b + l.k) l.rig.ram);
  others : ◌≡◌ {A = RigState} l.rig (record l.initial.rig { ram = l.rig.ram });
  long : length l.rig.ram ≡ 524288;
}
