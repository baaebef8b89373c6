use Rattle.span_lanes.proofs.rows.rectangle.AnyRowsTexelRowsMethod.draw_row.Goals as goal

pub returns-clause-drawn : goal.returns-clause-drawn
returns-clause-drawn g c = rw c.span-span.ensures at c.draw_texel_row.ensures.drawn
