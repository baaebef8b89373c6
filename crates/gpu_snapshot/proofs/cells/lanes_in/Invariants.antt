use Rattle.std.proofs.Common.{◌≡◌, ◌+◌, ◌*◌, Some, drop, length, take}
use Rattle.gpu_snapshot.specs.Memories.{TakesCells}
use Rattle.gpu_snapshot.proofs.cells.lanes_in.Given as goal

abbrev pub invariant-words : goal.invariant-words
invariant-words l = record {
  takes : TakesCells (Some (drop (32 * l.c) l.block)) (Some (drop (4 * (8 * l.c + l.k)) l.block))
      (take (2 * l.k) l.lanes);
  long : length l.lanes ≡ 16;
}
