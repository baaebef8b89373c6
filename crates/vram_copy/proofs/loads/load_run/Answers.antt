use Rattle.std.proofs.Common.{◌∙◌, sym}
use Rattle.vram_copy.proofs.CopyLemmas.{set_bit_alone, no_bit}
use Rattle.vram_copy.proofs.LoadLemmas.{load_alike}
use Rattle.vram_copy.proofs.loads.load_run.Goals as goal

pub returns-then-forces-clause-cells : goal.returns-then-forces-clause-cells
returns-then-forces-clause-cells g c =
    c.load_each-then-forces.ensures.cells ∙ load_alike _ 1 c.args.mask c.args.words.now c.args.stretch
    (set_bit_alone.0 ∙ sym c.if-tests.false ∙ c.tests.ensures)
    (set_bit_alone.1 ∙ sym c.if-forces.true ∙ c.forces.ensures)

pub returns-else-forces-clause-cells : goal.returns-else-forces-clause-cells
returns-else-forces-clause-cells g c =
    c.load_each-else-forces.ensures.cells ∙ load_alike _ 0 c.args.mask c.args.words.now c.args.stretch
    (no_bit.0 ∙ sym c.if-tests.false ∙ c.tests.ensures)
    (no_bit.1 ∙ sym c.if-forces.false ∙ c.forces.ensures)
