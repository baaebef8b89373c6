use Rattle.std.proofs.Common.{length, ◌≡◌, ◌≤◌, ◌+◌, ◌-◌, ◌*◌}
use Rattle.vram_copy.specs.Loads.{loaded_run}
use Rattle.vram_copy.proofs.loads.load_each.Given as goal

abbrev pub invariant-loop-done : goal.invariant-loop-done
invariant-loop-done g l = record {
  in_run : l.done ≤ l.stretch.n;
  cells : l.vram ≡ loaded_run l.initial.vram l.mask l.words (record l.stretch { n = l.done });
  long : length l.vram ≡ length l.initial.vram;
  cost : l.steps ≤ l.initial.steps + 2 * l.done;
}

abbrev pub decreases-loop-done : goal.decreases-loop-done
decreases-loop-done g l = l.stretch.n - l.done
