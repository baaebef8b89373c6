use Rattle.std.proofs.Common.{◌≡◌, ◌*◌, List, ℕ, Option, drop, length}
use Rattle.dev_io.specs.Device.{prepended}
use Rattle.gpu_capture.specs.Reader.{reader_input}
use Rattle.gpu_capture.specs.Words.{TakesWords, progress_after_words}
use Rattle.gpu_capture.proofs.block.read_words.Given as goal

abbrev pub invariant-loop-i : goal.invariant-loop-i
invariant-loop-i l = record {
  count : length l.words.items ≡ l.i;
  takes : (now : Option (List ℕ)) → TakesWords (reader_input l.progress (prepended l.bytes now))
      (reader_input (progress_after_words l.progress l.i) (prepended (drop (4 * l.i) l.bytes) now)) l.words.items;
}
