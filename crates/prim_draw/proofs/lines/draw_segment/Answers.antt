use Rattle.std.proofs.Common.{◌≡◌, true, false, ap, sym, refl, ◌∙◌}
use Rattle.std.specs.Option.{is_some}
use Rattle.line_walk.specs.Line.{Ends, is_near}
use Rattle.prim_draw.specs.Costs.{ends_cost}
use Rattle.prim_draw.specs.Lines.{drawn_ends}
use Rattle.prim_draw.proofs.lines.draw_segment.Goals as goal

pub returns-in-Some-clause-cells : goal.returns-in-Some-clause-cells
unfolding drawn_ends
returns-in-Some-clause-cells g c =
    let near : is_near c.args.ends.now.first c.args.ends.now.second ≡ true =
    ap (λ (s : Ends). is_near s.first s.second) (sym c.ends.view_is) ∙ sym c.in-Some.ensures.drawn in
    let same : c.in-Some.segment ≡ c.args.ends.now = c.in-Some.ensures.value.1 ∙ c.ends.view_is in
    rw near (rw (same, c.brush_in-brush.ensures.value, c.drawing_area.ensures.value) at c.draw_points.ensures.cells)

pub returns-in-Some-clause-cost : goal.returns-in-Some-clause-cost
unfolding ends_cost
returns-in-Some-clause-cost g c =
    let near : is_near c.args.ends.now.first c.args.ends.now.second ≡ true =
    ap (λ (s : Ends). is_near s.first s.second) (sym c.ends.view_is) ∙ sym c.in-Some.ensures.drawn in
    let same : c.in-Some.segment ≡ c.args.ends.now = c.in-Some.ensures.value.1 ∙ c.ends.view_is in
    rw near (rw (same, c.drawing_area.ensures.value) at c.draw_points.ensures.cost)

pub returns-in-None-clause-cells : goal.returns-in-None-clause-cells
unfolding drawn_ends
returns-in-None-clause-cells g c =
    let no : is_near c.args.ends.now.first c.args.ends.now.second ≡ false =
    ap (λ (s : Ends). is_near s.first s.second) (sym c.ends.view_is) ∙ sym c.new.ensures.drawn
    ∙ ap is_some c.in-None.is in
    rw no refl
