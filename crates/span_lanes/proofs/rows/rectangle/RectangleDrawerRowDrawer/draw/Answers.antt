use Rattle.std.proofs.Common.{subst, arith}
use Rattle.span_lanes.specs.Draws.{CanDraw}
use Rattle.span_lanes.specs.declared.span.Span.{Span}
use Rattle.span_lanes.proofs.TexelRowLemmas.{row_is, row_drawn}
use Rattle.span_lanes.proofs.rows.rectangle.RectangleDrawerRowDrawer.draw.Goals as goal

pub texel_row-v-requires-clause-below : goal.texel_row-v-requires-clause-below
texel_row-v-requires-clause-below g c = c.requires.reaches.top

pub texel_row-v-requires-clause-near : goal.texel_row-v-requires-clause-near
texel_row-v-requires-clause-near g c =
    let whole = c.requires.reaches in
    let clip = c.requires.fresh.0 in
    omega (arith, whole.bottom, clip.bottom)

pub draw_row-requires-clause-can : goal.draw_row-requires-clause-can
draw_row-requires-clause-can g c =
    let rows = c.args.self.now.rows in
    let whole = c.requires.reaches in
    let is = row_is rows c.args.y _ c.args._run whole c.texel_row-v.ensures in
    record {
      can = subst (λ (s : Span). CanDraw s c.args.vram.now) is c.requires.can;
      in_clip = record { left = omega arith; right = omega arith; top = whole.top; bottom = whole.bottom };
      row = c.texel_row-v.ensures;
    }

pub returns-clause-drawn : goal.returns-clause-drawn
returns-clause-drawn g c =
    let rows = c.args.self.now.rows in
    let is = row_is rows c.args.y _ c.args._run c.requires.reaches c.texel_row-v.ensures in
    row_drawn _ _ _ _ is c.draw_row.ensures.drawn
