use Rattle.std.proofs.Common.{◌≡◌, ◌*◌, take}
use Rattle.snapshot_words.specs.Values.{cell_words}
use Rattle.capture_cut.proofs.memory.put_lanes.Given as goal

abbrev pub invariant-loop-j : goal.invariant-loop-j
invariant-loop-j l = take l.j l.words ≡ cell_words (take (2 * l.j) l.lanes)
