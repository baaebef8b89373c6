use Rattle.std.proofs.Common.{◌≡◌, ◌+◌, ◌++◌, map, take}
use Rattle.circular_buffer.specs.Buffer.{keep_last}
use Rattle.gpu_taps.specs.Bare.{bare_notes}
use Rattle.gpu_taps.specs.Tally.{noted_of}
use Rattle.gpu_taps.proofs.trace.keep_words.Given as goal

abbrev pub invariant-loop-i : goal.invariant-loop-i
invariant-loop-i l = record {
  size : l.notes.capacity ≡ 64;
  items : l.notes.items
      ≡ keep_last 64 (l.initial.notes.items ++ map noted_of (bare_notes l.class (l.played + 1) (take l.i l.words)));
}
