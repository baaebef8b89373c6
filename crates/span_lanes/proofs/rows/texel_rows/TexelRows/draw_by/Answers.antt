use Rattle.std.proofs.Common.{sym, subst}
use Rattle.span_lanes.specs.Draws.{CanDraw}
use Rattle.span_lanes.specs.Pattern.{run_span}
use Rattle.span_lanes.specs.Figures.Rows.{PaintsAs}
use Rattle.span_lanes.specs.TexelRows.{IsWholeRow, rows_pattern}
use Rattle.span_lanes.specs.declared.rows.texel_rows.TexelRows.{TexelRows}
use Rattle.span_lanes.proofs.RectangleLemmas.{texels_can_draw, texels_paint}
use Rattle.span_lanes.proofs.rows.texel_rows.TexelRows.draw_by.Goals as goal

pub draw_rows-requires-clause-can : goal.draw_rows-requires-clause-can
draw_rows-requires-clause-can g c y run whole =
    let is = sym c.new-drawer.ensures.rows in (
      subst (λ (r : TexelRows). CanDraw (run_span (rows_pattern r) y run) c.args.vram.now) is
          (texels_can_draw c.args.self.now c.args.vram.now y run c.requires.can whole),
      subst (λ (r : TexelRows). IsWholeRow r.clip_rect y run) is whole,
    )

pub returns : goal.returns
returns g c p paints =
    c.draw_rows.ensures p
    (λ y run whole. subst (λ (r : TexelRows). PaintsAs p (rows_pattern r) y run) (sym c.new-drawer.ensures.rows)
    (texels_paint p c.args.self.now y run paints whole))
