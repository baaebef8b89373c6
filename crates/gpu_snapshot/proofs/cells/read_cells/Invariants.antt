use Rattle.std.proofs.Common.{◌≡◌, ◌≤◌, ◌*◌, ◌+◌, length, take}
use Rattle.event_play.specs.RigState.{RigState}
use Rattle.gpu_snapshot.specs.Memories.{TakesCells, with_cells}
use Rattle.gpu_snapshot.proofs.cells.read_cells.Given as goal

abbrev pub invariant-rows : goal.invariant-rows
invariant-rows g l = record {
  takes : TakesCells (g.S.Source.left l.initial.source) (g.S.Source.left l.source)
      (take (1024 * l.y) l.rig.gpu.parts.m);
  others : ◌≡◌ {A = RigState} l.rig (with_cells l.initial.rig l.rig.gpu.parts.m);
  long : length l.rig.gpu.parts.m ≡ length l.initial.rig.gpu.parts.m;
  cost : l.steps ≤ l.initial.steps + 64 * l.y;
  faults : g.S.Source.faults l.initial.source ≤ g.S.Source.faults l.source;
}
