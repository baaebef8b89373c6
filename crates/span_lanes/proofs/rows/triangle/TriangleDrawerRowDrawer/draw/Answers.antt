use Rattle.span_lanes.proofs.ChunkDrawLemmas.{draws_cells}
use Rattle.span_lanes.proofs.TriangleSetupLemmas.{can_draw_free}
use Rattle.span_lanes.proofs.rows.triangle.TriangleDrawerRowDrawer.draw.Goals as goal

pub draw_row-requires-clause-row : goal.draw_row-requires-clause-row
draw_row-requires-clause-row g c =
    can_draw_free c.args.self.now.clip _ _ c.requires.fresh.0 c.requires.can c.requires.reaches

pub returns-clause-drawn : goal.returns-clause-drawn
returns-clause-drawn g c = draws_cells _ _ _ c.draw_row.ensures.drawn
