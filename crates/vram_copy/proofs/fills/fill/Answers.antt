use Rattle.std.proofs.Common.{arith}
use Rattle.vram_copy.proofs.FillLemmas.{filled_is_whole}
use Rattle.vram_copy.proofs.fills.fill.Goals as goal

pub returns-clause-cells : goal.returns-clause-cells
returns-clause-cells g c =
    filled_is_whole c.height-height.result c.args.vram.now c.loop-j.vram (record { x = c.args.x; y = c.args.y })
    c.args.w c.loop-j.j c.args.h c.args.color
    c.height-height.ensures.cells c.loop-j.invariant.cells (omega arith)
