use Rattle.std.proofs.Common.{length, ◌≡◌, ◌≤◌, ◌+◌, ◌-◌, ◌*◌}
use Rattle.vram_copy.specs.Places.{IsPlace}
use Rattle.vram_copy.specs.Words.{loaded}
use Rattle.vram_copy.proofs.cursor.Cursor.load_words.Given as goal

abbrev pub invariant-loop-done : goal.invariant-loop-done
invariant-loop-done g l = record {
  in_words : l.done ≤ l.count;
  here : IsPlace l.job.w l.place (l.job.at + l.done);
  cells : l.vram ≡ loaded l.height l.initial.vram l.mask (record { job = l.job; words = l.words }) l.done;
  long : length l.vram ≡ length l.initial.vram;
  cost : l.steps ≤ l.initial.steps + 2 * l.done;
}

abbrev pub decreases-loop-done : goal.decreases-loop-done
decreases-loop-done g l = l.count - l.done
