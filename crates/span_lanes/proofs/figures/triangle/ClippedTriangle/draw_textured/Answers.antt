use Rattle.span_lanes.proofs.RunLemmas.{clip_rect_is}
use Rattle.span_lanes.proofs.figures.triangle.ClippedTriangle.draw_textured.Goals as goal

pub row_method-requires-clause-clip_rect : goal.row_method-requires-clause-clip_rect
row_method-requires-clause-clip_rect g c = clip_rect_is _ _ c.requires.can.clip_rect c.requires.can.can.small
