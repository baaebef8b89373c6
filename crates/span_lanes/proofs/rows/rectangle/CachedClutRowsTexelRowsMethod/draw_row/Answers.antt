use Rattle.span_lanes.proofs.TexelRowLemmas.{can_color_row}
use Rattle.span_lanes.proofs.rows.rectangle.CachedClutRowsTexelRowsMethod.draw_row.Goals as goal

pub draw_cached-requires-clause-can : goal.draw_cached-requires-clause-can
draw_cached-requires-clause-can g c =
    rw c.span-span.ensures
    (can_color_row 0 c.args.rows.now c.args.at.y c.args.at.v c.args.vram.now c.requires.ready.0 c.requires.can)

pub draw_cached-requires-clause-finds : goal.draw_cached-requires-clause-finds
draw_cached-requires-clause-finds g c = rw c.span-span.ensures (c.texel_run.ensures c.args.at.y)

pub returns-clause-drawn : goal.returns-clause-drawn
returns-clause-drawn g c = rw c.span-span.ensures at c.draw_cached.ensures.drawn
