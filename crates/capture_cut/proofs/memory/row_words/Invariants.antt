use Rattle.std.proofs.Common.{◌≡◌, ◌+◌, ◌*◌, take, drop, length}
use Rattle.snapshot_words.specs.Outline.{AreCells}
use Rattle.snapshot_words.specs.Values.{cell_words}
use Rattle.capture_cut.proofs.memory.row_words.Given as goal

abbrev pub invariant-loop-k : goal.invariant-loop-k
invariant-loop-k g l = record {
  count : length l.words ≡ 512;
  words : take (8 * l.k) l.words ≡ cell_words (take (16 * l.k) (drop (1024 * l.y) l.vram));
  cells : AreCells (take (16 * l.k) (drop (1024 * l.y) l.vram));
  cost : l.steps ≡ l.initial.steps + l.k;
}
