use Rattle.std.proofs.Common.{◌≡◌, ◌*◌, ◌+◌, List, Option, ℕ, drop, length, take}
use Rattle.dev_io.specs.Device.{prepended}
use Rattle.event_play.specs.RigState.{RigState}
use Rattle.gpu_snapshot.specs.Memories.{TakesCells, with_cells}
use Rattle.gpu_snapshot.proofs.cells.set_row.Given as goal

abbrev pub invariant-chunks : goal.invariant-chunks
invariant-chunks g l = record {
  row : (before left : Option (List ℕ))
      → TakesCells before (prepended l.block left) (take (1024 * l.y) l.initial.rig.gpu.parts.m)
      → TakesCells before (prepended (drop (32 * l.c) l.block) left) (take (16 * (64 * l.y + l.c)) l.rig.gpu.parts.m);
  others : ◌≡◌ {A = RigState} l.rig (with_cells l.initial.rig l.rig.gpu.parts.m);
  long : length l.rig.gpu.parts.m ≡ length l.initial.rig.gpu.parts.m;
  cost : l.steps ≡ l.initial.steps + l.c;
}
