use Rattle.std.proofs.Common.{length, ◌≡◌, ◌≤◌, ◌+◌, ◌*◌}
use Rattle.vram_copy.specs.Copy.{copied_run}
use Rattle.vram_copy.proofs.copies.copy_in_turn.Given as goal

abbrev pub invariant-loop-i : goal.invariant-loop-i
invariant-loop-i g l = record {
  cells : l.vram ≡ copied_run l.initial.vram l.mask l.way.from l.way.to l.i;
  long : length l.vram ≡ length l.initial.vram;
  cost : l.steps ≤ l.initial.steps + 3 * l.i;
}
