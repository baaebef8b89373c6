use Rattle.span_lanes.proofs.ShadingLemmas.{one_hues}
use Rattle.span_lanes.proofs.rows.triangle.FlatTexelsMethodTexelMethod.draw_row.Goals as goal

pub draw_flat_texels-requires-clause-one_color : goal.draw_flat_texels-requires-clause-one_color
draw_flat_texels-requires-clause-one_color g c =
    let span = c.args.span.now in
    one_hues span.paint c.args.self.now.color span.x span.y span.n c.requires.ready.0.color_is
    c.requires.row.can.span.inside
