use Rattle.std.proofs.Common.{◌≡◌, ◌<◌, length, take, drop}
use Rattle.ot_clear_dma.specs.Ram.{memory_words}
use Rattle.capture_cut.proofs.memory.ram_words.Given as goal

abbrev pub invariant-loop-i : goal.invariant-loop-i
invariant-loop-i l = record {
  count : length l.words ≡ 512;
  words : take l.i l.words ≡ take l.i (drop l.first l.ram);
  long : 0 < l.i → length l.ram ≡ memory_words;
}
