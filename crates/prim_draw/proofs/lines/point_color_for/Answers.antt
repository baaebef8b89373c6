use Rattle.std.proofs.Common.{◌≡◌, ◌%◌, ◌^◌, ap, sym, ◌∙◌}
use Rattle.px_num.specs.declared.shape.Vertex.{Vertex}
use Rattle.prim_draw.proofs.InkLemmas.{all_inked, some_inked}
use Rattle.prim_draw.proofs.lines.point_color_for.Goals as goal

pub returns-then-lies_in : goal.returns-then-lies_in
returns-then-lies_in c =
    let s = c.args.segment.now in
    let color : c.first-color.result.color ≡ s.first.color = ap (λ (v : Vertex). v.color) c.first-color.ensures in
    let last : c.second.result.color ≡ s.second.color = ap (λ (v : Vertex). v.color) c.second.ensures in
    some_inked c.args.area.now c.args.brush.now s (c.first-color.result.color % 2 ^ 24) c.point_color_of.result
    (λ point_color inks.
    all_inked c.args.area.now c.args.brush.now s (c.first-color.result.color % 2 ^ 24) point_color
    (ap (λ n. n % 2 ^ 24) color)
    (sym color ∙ c.if-color-second.false ∙ last) (c.lies_in.ensures.first c.if-lies_in.true)
    (c.lies_in.ensures.second c.if-lies_in.true) inks)
    c.point_color_of.ensures
