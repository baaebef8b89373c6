use Rattle.span_lanes.proofs.ChunkDrawLemmas.{draws_cells}
use Rattle.span_lanes.proofs.rows.span_drawer.SpanDrawerRowDrawer.draw.Goals as goal

pub returns-clause-drawn : goal.returns-clause-drawn
returns-clause-drawn g c =
    draws_cells _ _ _ c.draw_ready.ensures.drawn
