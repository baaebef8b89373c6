use Rattle.std.proofs.Common.{◌≡◌, ◌+◌, ◌*◌, take}
use Rattle.sha2.specs.Hashers.{Holds256}
use Rattle.picture_out.specs.Dump.{dump}
use Rattle.picture_out.proofs.sums.vram_sum.Given as goal

abbrev pub invariant-loop-y : goal.invariant-loop-y
invariant-loop-y g l = record {
  given : Holds256 l.hasher (dump (take (1024 * l.y) l.vram));
  cost : l.steps ≡ l.initial.steps + 64 * l.y;
}
