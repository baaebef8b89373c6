use Rattle.span_lanes.proofs.TriangleSetupLemmas.{can_color_row, can_draw_row}
use Rattle.span_lanes.proofs.rows.triangle.CachedClutMethodTexelMethod.draw_row.Goals as goal

pub draw_cached-requires-clause-can : goal.draw_cached-requires-clause-can
draw_cached-requires-clause-can g c =
    let suits = c.requires.ready.0 in
    let can = can_draw_row _ _ _ suits.ready c.requires.row in
    rw c.opaque.ensures (can_color_row _ _ _ _ can suits.suits)

pub draw_cached-requires-clause-finds : goal.draw_cached-requires-clause-finds
draw_cached-requires-clause-finds g c = rw c.opaque.ensures c.triangle_row_run-texel_run.ensures
