use Rattle.std.proofs.Common.{length, ◌≡◌, ◌+◌}
use Rattle.vram_copy.specs.Costs.{fill_cost}
use Rattle.vram_copy.specs.Fill.{filled_rows}
use Rattle.vram_copy.proofs.fills.fill.Given as goal

abbrev pub invariant-loop-j : goal.invariant-loop-j
invariant-loop-j g l = record {
  cells : l.vram ≡ filled_rows l.height l.initial.vram (record { x = l.x; y = l.y })
      (record { w = l.w; h = l.j }) l.color;
  long : length l.vram ≡ length l.initial.vram;
  cost : l.steps ≡ l.initial.steps + fill_cost l.w l.j;
}
