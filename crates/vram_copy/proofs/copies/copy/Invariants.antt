use Rattle.std.proofs.Common.{length, ◌≡◌, ◌≤◌, ◌+◌}
use Rattle.vram_copy.specs.Copy.{copied_rows}
use Rattle.vram_copy.specs.Costs.{rows_cost}
use Rattle.vram_copy.proofs.copies.copy.Given as goal

abbrev pub invariant-loop-j : goal.invariant-loop-j
invariant-loop-j g l = record {
  cells : l.vram ≡ copied_rows l.height l.initial.vram l.mask (record { from = l.from; to = l.to })
      (record { w = l.w; h = l.j });
  long : length l.vram ≡ length l.initial.vram;
  cost : l.steps ≤ l.initial.steps + rows_cost l.height l.from l.to l.w l.j;
}
