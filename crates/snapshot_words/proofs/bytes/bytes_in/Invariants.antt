use Rattle.std.proofs.Common.{◌≡◌, ◌*◌, length, take}
use Rattle.snapshot_words.specs.Outline.{bytes_of}
use Rattle.snapshot_words.proofs.bytes.bytes_in.Given as goal

abbrev pub invariant-loop-word : goal.invariant-loop-word
invariant-loop-word l = record {
  bytes : l.bytes.items ≡ bytes_of (take l.word-index l.words);
  long : length l.bytes.items ≡ 4 * l.word-index;
}
