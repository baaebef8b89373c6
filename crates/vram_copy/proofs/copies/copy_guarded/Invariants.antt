use Rattle.std.proofs.Common.{length, ◌≡◌, ◌≤◌, ◌<◌, ◌+◌, ◌-◌, ◌%◌}
use Rattle.vram_copy.specs.Copy.{copied_run}
use Rattle.vram_copy.specs.Costs.{piece_cost}
use Rattle.vram_copy.proofs.copies.copy_guarded.Given as goal

abbrev pub invariant-loop-done : goal.invariant-loop-done
invariant-loop-done g l = record {
  in_piece : l.done ≤ l.n;
  whole : l.done < l.n → l.done % 16 ≡ 0;
  cells : l.vram ≡ copied_run l.initial.vram l.mask l.way.from l.way.to l.done;
  long : length l.vram ≡ length l.initial.vram;
  cost : l.steps ≤ l.initial.steps + piece_cost l.way.from l.way.to l.done;
}

abbrev pub decreases-loop-done : goal.decreases-loop-done
decreases-loop-done g l = l.n - l.done
