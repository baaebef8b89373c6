use Rattle.std.proofs.Common.{sym, subst}
use Rattle.vram_store.specs.Vram.{height_of}
use Rattle.span_lanes.specs.Cells.{Stage}
use Rattle.span_lanes.specs.Pattern.{Pattern}
use Rattle.span_lanes.specs.Figures.Rectangles.{CanDrawTexelRows, DrawsClip, DrawsTexelRows}
use Rattle.span_lanes.specs.declared.rows.texel_rows.TexelRows.{TexelRows}
use Rattle.prim_draw.specs.ClippedRectangle.{rectangle_pattern}
use Rattle.prim_draw.proofs.RectLemmas.{can_draw_texels, flat_pattern, texels_are}
use Rattle.prim_draw.proofs.rectangles.ClippedRectangle.draw.Goals as goal

pub draw-requires : goal.draw-requires
draw-requires g c =
    subst (λ (rows : TexelRows). CanDrawTexelRows (height_of c.args.vram.now) rows) (sym c.texels.ensures)
    (can_draw_texels _ _ _ c.requires c.in-Some.is)

pub returns-in-Some : goal.returns-in-Some
returns-in-Some g c =
    let pattern = rectangle_pattern c.args.self.now in
    let before : Stage = record { m = c.args.vram.now; steps = c.args.steps.now } in
    let after : Stage = record { m = c.draw.new.vram; steps = c.draw.new.steps } in
    subst (λ (rows : TexelRows). DrawsTexelRows rows before after) c.texels.ensures c.draw.ensures pattern
    (texels_are (height_of c.args.vram.now) _ _ c.requires c.in-Some.is)

pub returns-in-None : goal.returns-in-None
returns-in-None g c =
    let before : Stage = record { m = c.args.vram.now; steps = c.args.steps.now } in
    let after : Stage = record { m = c.draw_flat_rectangle.new.vram; steps = c.draw_flat_rectangle.new.steps } in
    subst (λ (p : Pattern). DrawsClip p c.args.self.now.clip_rect.now before after)
    (sym (flat_pattern c.args.self.now c.in-None.is)) c.draw_flat_rectangle.ensures
