use Rattle.std.proofs.Common.{length, [], ◌-◌}
use Rattle.list_dma.specs.Walk.{chain, repeat_after}
use Rattle.list_dma.proofs.Steps.{IsOnWay}
use Rattle.list_dma.proofs.walk.count_nodes.Given as goal

abbrev pub invariant-loop-count : goal.invariant-loop-count
invariant-loop-count l =
    IsOnWay l.ram l.marks l.address (l.limit - l.count) l.count (repeat_after [] (chain l.ram l.start l.limit))
    (length (chain l.ram l.start l.limit))
