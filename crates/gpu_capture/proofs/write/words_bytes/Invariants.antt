use Rattle.std.proofs.Common.{◌≡◌, ◌*◌, take, flat_map, length}
use Rattle.gpu_capture.specs.Written.{word_bytes}
use Rattle.gpu_capture.proofs.write.words_bytes.Given as goal

abbrev pub invariant-loop-word : goal.invariant-loop-word
invariant-loop-word l = record {
  gathered : l.gathered.items ≡ flat_map word_bytes (take l.word-index l.words);
  long : length l.gathered.items ≡ 4 * l.word-index;
}
