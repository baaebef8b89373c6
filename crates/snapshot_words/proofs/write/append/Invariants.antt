use Rattle.std.proofs.Common.{◌≡◌, ◌+◌, ◌++◌, length, take}
use Rattle.snapshot_words.proofs.write.append.Given as goal

abbrev pub invariant-loop-word : goal.invariant-loop-word
invariant-loop-word l = record {
  words : l.words.items ≡ l.initial.words.items ++ take l.word-index l.more;
  long : length l.words.items ≡ length l.initial.words.items + l.word-index;
}
