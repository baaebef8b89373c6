use Rattle.span_lanes.proofs.ShadingLemmas.{one_hues, planes_hues}
use Rattle.span_lanes.proofs.attributes.shading.row_colors_of.Goals as goal

pub returns-in-OneColor : goal.returns-in-OneColor
returns-in-OneColor c =
    let span = c.args.span.now in
    one_hues span.paint c.in-OneColor.color span.x span.y span.n
    (rw c.in-OneColor.is at c.requires.shading) c.requires.span.inside

pub returns-in-Planes : goal.returns-in-Planes
returns-in-Planes c =
    let span = c.args.span.now in
    planes_hues span.paint _ _ _ span.x span.y span.n c.triangle_lines.result c.requires.span.some
    (rw c.in-Planes.is at c.requires.shading) c.requires.span.inside c.triangle_lines.ensures
