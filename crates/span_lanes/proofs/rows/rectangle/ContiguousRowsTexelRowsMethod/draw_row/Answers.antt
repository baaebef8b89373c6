use Rattle.span_lanes.proofs.TexelRowLemmas.{can_take_row}
use Rattle.span_lanes.proofs.rows.rectangle.ContiguousRowsTexelRowsMethod.draw_row.Goals as goal

pub draw_texel_run-requires-clause-take : goal.draw_texel_run-requires-clause-take
draw_texel_run-requires-clause-take g c =
    rw (c.span-span.ensures, c.sampler_of-found.ensures.texture, c.sampler_of-found.ensures.sampler)
    (can_take_row c.args.rows.now c.args.at.y c.args.at.v _ c.args.vram.now c.requires.ready c.requires.can
    (c.texel_run.ensures c.args.at.y))
