use Rattle.std.proofs.Common.{arith, ◌∙◌, sym, ap, get_or, cond, ◌+◌, ◌*◌}
use Rattle.vram_store.specs.Plot.{is_kept}
use Rattle.vram_store.proofs.MaskLemmas.{open_untested}
use Rattle.vram_store.proofs.Ones.{ones}
use Rattle.vram_copy.proofs.plots.open_cells.Goals as goal

pub returns-then-tests-clause-bits : goal.returns-then-tests-clause-bits
returns-then-tests-clause-bits g c j lt =
    c.open_bits.ensures j (omega (arith, lt, c.requires.count.1))
    ∙ ap (λ cell. cond (is_kept c.args.mask cell) 0 1) (c.load16.ensures.lanes.cells j lt)

pub returns-else-tests-clause-bits : goal.returns-else-tests-clause-bits
returns-else-tests-clause-bits g c j lt =
    ones j (omega (arith, lt, c.requires.count.1))
    ∙ open_untested c.args.mask (get_or c.args.vram.now (1024 * c.args.to.y + c.args.to.x + j) 0)
    (sym c.tests.ensures ∙ c.if-tests.false)
