use Rattle.std.proofs.Common.{◌∙◌, sym, ◌*◌}
use Rattle.vram_copy.proofs.CopyLemmas.{run_alike, set_bit_alone, no_bit}
use Rattle.vram_copy.proofs.chunks.copy_chunks.Goals as goal

pub returns-then-forces-clause-cells : goal.returns-then-forces-clause-cells
returns-then-forces-clause-cells g c =
    c.copy_each-then-forces.ensures.cells ∙ run_alike _ 1 c.args.mask c.args.way.from c.args.way.to (16 * c.args.count)
    (set_bit_alone.0 ∙ sym c.if-tests.false ∙ c.tests.ensures)
    (set_bit_alone.1 ∙ sym c.if-forces.true ∙ c.forces.ensures)

pub returns-else-forces-clause-cells : goal.returns-else-forces-clause-cells
returns-else-forces-clause-cells g c =
    c.copy_each-else-forces.ensures.cells ∙ run_alike _ 0 c.args.mask c.args.way.from c.args.way.to (16 * c.args.count)
    (no_bit.0 ∙ sym c.if-tests.false ∙ c.tests.ensures) (no_bit.1 ∙ sym c.if-forces.false ∙ c.forces.ensures)
