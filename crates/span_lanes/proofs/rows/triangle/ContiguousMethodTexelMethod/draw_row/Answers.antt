use Rattle.span_lanes.proofs.TriangleSetupLemmas.{can_draw_row}
use Rattle.span_lanes.proofs.rows.triangle.ContiguousMethodTexelMethod.draw_row.Goals as goal

pub draw_contiguous_row-requires-clause-can : goal.draw_contiguous_row-requires-clause-can
draw_contiguous_row-requires-clause-can g c = can_draw_row _ _ _ c.requires.ready.0.ready c.requires.row
