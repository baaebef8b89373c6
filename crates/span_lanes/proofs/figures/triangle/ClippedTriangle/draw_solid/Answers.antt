use Rattle.std.proofs.Common.{sym, ap, subst}
use Rattle.span_lanes.specs.Figures.ClippedTriangle.{drawn_state}
use Rattle.span_lanes.specs.Draws.{CanDraw}
use Rattle.span_lanes.specs.Pattern.{Pattern, run_span, uniform}
use Rattle.span_lanes.specs.declared.span.DrawState.{DrawState}
use Rattle.span_lanes.proofs.RunLemmas.{is_clipped, tri_block, tri_can_draw, tri_drawn, tri_paints}
use Rattle.span_lanes.proofs.figures.triangle.ClippedTriangle.draw_solid.Goals as goal

pub rows-requires : goal.rows-requires
rows-requires g c = is_clipped _ _ c.requires.can

pub draw_rows-requires-clause-clip_rect : goal.draw_rows-requires-clause-clip_rect
draw_rows-requires-clause-clip_rect g c = tri_block _ _ _ c.rows.ensures c.requires.can.can.small

pub draw_rows-requires-clause-can : goal.draw_rows-requires-clause-can
draw_rows-requires-clause-can g c y run gives = (
  subst (λ (p : Pattern). CanDraw (run_span p y run) c.args.vram.now)
      (sym (ap (λ (state : DrawState). uniform state) c.requires.state))
      (tri_can_draw _ _ _ c.rows.ensures c.args.self.now.state y run c.args.vram.now c.requires.can.can gives),
  tt,
)

pub returns : goal.returns
returns g c =
    let state = drawn_state c.args.self.now in
    tri_drawn _ _ _ c.rows.ensures _ _ _
    (c.draw_rows.ensures (uniform state)
    (λ y run gives. tri_paints _ _ _ c.rows.ensures c.args.self.now.state _ y run
    (ap (λ (state : DrawState). uniform state) c.requires.state) gives))
