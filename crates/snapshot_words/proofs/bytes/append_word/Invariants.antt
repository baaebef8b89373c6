use Rattle.std.proofs.Common.{◌≡◌, ◌+◌, ◌++◌, length, take}
use Rattle.snapshot_words.proofs.bytes.append_word.Given as goal

abbrev pub invariant-loop-byte : goal.invariant-loop-byte
invariant-loop-byte l = record {
  bytes : l.bytes.items ≡ l.initial.bytes.items ++ take l.byte-index l.byte-items;
  long : length l.bytes.items ≡ length l.initial.bytes.items + l.byte-index;
}
