use Rattle.std.proofs.Common.{◌≡◌, ◌≤◌, ◌+◌, ◌*◌, take}
use Rattle.std.specs.List.{sum}
use Rattle.demo_play.proofs.sum.sum_of_cells.Given as goal

abbrev pub invariant-loop-y : goal.invariant-loop-y
invariant-loop-y g l = record {
  value : l.total ≡ sum (take (1024 * l.y) l.gpu.parts.m);
  bounds : l.total ≤ 67107840 * l.y;
  cost : l.steps ≡ l.initial.steps + 64 * l.y;
}
