use Rattle.std.proofs.Common.{length, ◌≡◌, ◌≤◌, ◌+◌, ◌*◌}
use Rattle.vram_copy.specs.Copy.{copied_run}
use Rattle.vram_copy.specs.Costs.{piece_cost}
use Rattle.vram_copy.proofs.chunks.copy_each.Given as goal

abbrev pub invariant-loop-c : goal.invariant-loop-c
invariant-loop-c g l = record {
  cells : l.vram ≡ copied_run l.initial.vram l.mask l.way.from l.way.to (16 * l.c);
  long : length l.vram ≡ length l.initial.vram;
  cost : l.steps ≤ l.initial.steps + piece_cost l.way.from l.way.to (16 * l.c);
}
