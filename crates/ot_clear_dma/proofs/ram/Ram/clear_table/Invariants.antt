use Rattle.std.proofs.Common.{◌≡◌}
use Rattle.px_num.specs.Fold.{each_below}
use Rattle.ot_clear_dma.specs.Table.{linked}
use Rattle.ot_clear_dma.proofs.ram.Ram.clear_table.Given as goal

abbrev pub invariant-loop-k : goal.invariant-loop-k
invariant-loop-k l = l.self ≡ each_below (linked l.madr) l.k l.initial.self
