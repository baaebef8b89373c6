use Rattle.std.proofs.Common.{◌≡◌, ◌≤◌, ◌+◌, ◌*◌, take, drop}
use Rattle.std.specs.List.{sum}
use Rattle.demo_play.proofs.sum.row_sum.Given as goal

abbrev pub invariant-loop-k : goal.invariant-loop-k
invariant-loop-k g l = record {
  value : l.total ≡ sum (take (16 * l.k) (drop (1024 * l.y) l.vram));
  bounds : l.total ≤ 1048560 * l.k;
  cost : l.steps ≡ l.initial.steps + l.k;
}
