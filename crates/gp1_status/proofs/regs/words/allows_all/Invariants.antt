use Rattle.std.proofs.Common.{◌≡◌, true, ◌<◌, ℕ, slice_index}
use Rattle.gp1_status.specs.Words.{is_allowed}
use Rattle.gp1_status.proofs.regs.words.allows_all.Given as goal

abbrev pub invariant-loop-i : goal.invariant-loop-i
invariant-loop-i l = (k : ℕ) → k < l.i → is_allowed l.height k (slice_index l.words k) ≡ true
