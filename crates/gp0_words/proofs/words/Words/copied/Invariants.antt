use Rattle.std.proofs.Common.{◌≡◌, take}
use Rattle.gp0_words.proofs.words.Words.copied.Given as goal

abbrev pub invariant-loop-word : goal.invariant-loop-word
invariant-loop-word l = l.words ≡ take l.word-index l.slice
