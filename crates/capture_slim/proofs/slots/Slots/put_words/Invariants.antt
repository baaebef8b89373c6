use Rattle.std.proofs.Common.{◌≡◌, ◌++◌, take}
use Rattle.capture_slim.specs.Window.{kept_words}
use Rattle.capture_slim.proofs.slots.Slots.put_words.Given as goal

abbrev pub invariant-loop-word : goal.invariant-loop-word
invariant-loop-word l = record { slots : l.self ≡ l.initial.self ++ kept_words (take l.word-index l.words) }
