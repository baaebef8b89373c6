use Rattle.std.proofs.Common.{length, ◌≡◌, ◌+◌, ◌*◌}
use Rattle.vram_copy.specs.Fill.{filled_row}
use Rattle.vram_copy.proofs.fills.fill_row.Given as goal

abbrev pub invariant-loop-k : goal.invariant-loop-k
invariant-loop-k g l = record {
  cells : l.vram ≡ filled_row l.initial.vram l.first (16 * l.k) l.color;
  long : length l.vram ≡ length l.initial.vram;
  cost : l.steps ≡ l.initial.steps + l.k;
}
