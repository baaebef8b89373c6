use Rattle.std.proofs.Common.{◌≡◌, drop}
use Rattle.gathered_out.specs.Pieces.{lacking}
use Rattle.gathered_out.proofs.counted.first_lacking.Given as goal

abbrev pub invariant-loop-extent : goal.invariant-loop-extent
invariant-loop-extent l = lacking (drop l.extent-index l.extents) l.rest ≡ lacking l.extents l.taken
