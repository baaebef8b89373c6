use Rattle.std.proofs.Common.{◌≡◌, ◌≤◌, ◌*◌, take}
use Rattle.std.specs.List.{sum}
use Rattle.demo_play.proofs.sum.lanes_sum.Given as goal

abbrev pub invariant-loop-lane : goal.invariant-loop-lane
invariant-loop-lane l = record {
  value : l.total
      ≡ sum (take l.lane-index l.lanes);
  bounds : l.total ≤ 65535 * l.lane-index;
}
