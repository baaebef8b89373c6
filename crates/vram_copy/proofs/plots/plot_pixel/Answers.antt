use Rattle.std.proofs.Common.{◌∙◌, sym, ap}
use Rattle.vram_store.specs.Vram.{set}
use Rattle.vram_copy.proofs.CopyLemmas.{plot_untested}
use Rattle.vram_copy.proofs.plots.plot_pixel.Goals as goal

pub returns-else-tests-clause-cells : goal.returns-else-tests-clause-cells
returns-else-tests-clause-cells g c =
    c.put.ensures.cells
    ∙ ap (set c.args.vram.now c.args.to.x c.args.to.y) c.force.ensures
    ∙ sym (plot_untested c.args.vram.now c.args.mask c.args.to.x c.args.to.y c.args.color
    (sym c.tests.ensures ∙ c.if-tests.false))
