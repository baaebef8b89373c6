use Rattle.std.proofs.Common.{◌≡◌, ◌*◌, length, take}
use Rattle.snapshot_words.specs.Outline.{bytes_of}
use Rattle.capture_cut.proofs.memory.write_words.Given as goal

abbrev pub invariant-loop-i : goal.invariant-loop-i
invariant-loop-i g l = record {
  count : length l.bytes ≡ 2048;
  bytes : take (4 * l.i) l.bytes ≡ bytes_of (take l.i l.words);
}
