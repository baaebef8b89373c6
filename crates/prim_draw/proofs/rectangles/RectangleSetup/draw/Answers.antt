use Rattle.std.proofs.Common.{◌≡◌, None, Some, ◌∙◌, sym, refl}
use Rattle.prim_draw.specs.Costs.{rectangle_cost}
use Rattle.prim_draw.specs.Rectangles.{drawn_rectangle, rectangle_box}
use Rattle.prim_draw.proofs.rectangles.RectangleSetup.draw.Goals as goal

pub returns-in_default-clause-cells : goal.returns-in_default-clause-cells
unfolding drawn_rectangle
returns-in_default-clause-cells g c =
    let box : rectangle_box c.args.regs.now c.args.extent.now ≡ None = sym c.rectangle_box-area.ensures.value
    ∙ c.in_default.is in
    rw box refl

pub returns-in-Some-clause-cells : goal.returns-in-Some-clause-cells
unfolding drawn_rectangle
returns-in-Some-clause-cells g c =
    let box : rectangle_box c.args.regs.now c.args.extent.now ≡ Some c.in-Some.clip =
    sym c.rectangle_box-area.ensures.value ∙ c.in-Some.is in
    rw (box, ← c.from_box.ensures.value) c.draw.ensures.cells

pub returns-in-Some-clause-cost : goal.returns-in-Some-clause-cost
unfolding rectangle_cost
returns-in-Some-clause-cost g c =
    let box : rectangle_box c.args.regs.now c.args.extent.now ≡ Some c.in-Some.clip =
    sym c.rectangle_box-area.ensures.value ∙ c.in-Some.is in
    rw (box, ← c.from_box.ensures.value) c.draw.ensures.cost
