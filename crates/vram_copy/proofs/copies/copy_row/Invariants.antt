use Rattle.std.proofs.Common.{length, true, ◌≡◌, ◌≤◌, ◌<◌, ◌+◌, ◌-◌}
use Rattle.vram_copy.specs.Copy.{copied_row}
use Rattle.vram_copy.specs.Costs.{begins_chunk, cost_below}
use Rattle.vram_copy.proofs.copies.copy_row.Given as goal

abbrev pub invariant-loop-done : goal.invariant-loop-done
invariant-loop-done g l = record {
  in_row : l.done ≤ l.w;
  begins : l.done < l.w → begins_chunk l.way.from l.way.to l.done ≡ true;
  cells : l.vram ≡ copied_row l.initial.vram l.mask l.way.from l.way.to l.done;
  long : length l.vram ≡ length l.initial.vram;
  cost : l.steps ≤ l.initial.steps + cost_below l.way.from l.way.to l.w l.done;
}

abbrev pub decreases-loop-done : goal.decreases-loop-done
decreases-loop-done g l = l.w - l.done
