use Rattle.span_lanes.proofs.ChunkDrawLemmas.{draws_cells}
use Rattle.span_lanes.proofs.rows.span_drawer.draw_span.Goals as goal

pub draw-requires-clause-fresh : goal.draw-requires-clause-fresh
draw-requires-clause-fresh g c = (c.new-drawer.ensures.ready, c.new-drawer.ensures.fresh c.args.vram.now)

pub returns-in-Some : goal.returns-in-Some
returns-in-Some g c = record { drawn = draws_cells _ _ _ c.draw_texel_row.ensures.drawn }
