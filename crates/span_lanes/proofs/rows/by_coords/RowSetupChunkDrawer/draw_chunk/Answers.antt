use Rattle.span_lanes.proofs.ChunkDrawLemmas.{draw_stays}
use Rattle.span_lanes.proofs.PlanLemmas.{coordinates_here}
use Rattle.span_lanes.proofs.rows.by_coords.RowSetupChunkDrawer.draw_chunk.Goals as goal

pub draw_guarded-requires-clause-at : goal.draw_guarded-requires-clause-at
draw_guarded-requires-clause-at g c =
    let span = c.args.chunk.now.span.now in
    let chunk = c.args.chunk.now in
    let at = c.tex_coord_lanes-at.ensures in
    coordinates_here span.paint span.x span.y span.n chunk.first chunk.k c.args.self.now.coords _ _
    c.requires.serves.1.coords c.requires.chunk.within c.requires.chunk.few at.across at.down at.u at.v

pub returns-clause-serves : goal.returns-clause-serves
returns-clause-serves g c = (draw_stays c.requires.serves.0 c.draw_guarded.ensures.long, c.requires.serves.1)
