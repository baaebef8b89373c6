use Rattle.std.proofs.Common.{arith, ◌≡◌}
use Rattle.vram_copy.proofs.CopyLemmas.{copied_is_whole}
use Rattle.vram_copy.proofs.CostLemmas.{copy_cost_is}
use Rattle.vram_copy.proofs.copies.copy.Goals as goal

pub returns-clause-cells : goal.returns-clause-cells
returns-clause-cells g c =
    copied_is_whole c.height-height.result c.args.vram.now c.loop-j.vram c.args.mask
    (record { from = c.args.from; to = c.args.to }) c.args.w c.loop-j.j c.args.h
    c.height-height.ensures.cells c.loop-j.invariant.cells (omega arith)

pub returns-clause-cost : goal.returns-clause-cost
returns-clause-cost g c =
    let all : c.loop-j.j ≡ c.args.h = omega arith in
    rw (
      ← all,
      ← copy_cost_is c.height-height.result c.args.vram.now c.args.from c.args.to c.args.w c.loop-j.j
          c.height-height.ensures.cells,
    ) c.loop-j.invariant.cost
