use Rattle.std.proofs.Common.{◌≡◌, take}
use Rattle.snapshot_words.proofs.values.packet_in.Given as goal

abbrev pub invariant-loop-word : goal.invariant-loop-word
invariant-loop-word l = l.packet ≡ take l.word-index l.words
