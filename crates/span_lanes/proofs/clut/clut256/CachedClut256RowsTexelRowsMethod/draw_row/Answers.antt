use Rattle.span_lanes.proofs.TexelRowLemmas.{can_color_row}
use Rattle.span_lanes.proofs.clut.clut256.CachedClut256RowsTexelRowsMethod.draw_row.Goals as goal

pub draw_chunks-requires : goal.draw_chunks-requires
draw_chunks-requires g c =
    rw c.span.ensures (
      record {
        can = can_color_row 1 c.args.rows.now c.args.at.y c.args.at.v c.args.vram.now c.requires.ready.0.cache
            c.requires.can;
        entries = c.fill.ensures.modulated;
      },
      c.texel_run.ensures c.args.at.y,
    )
