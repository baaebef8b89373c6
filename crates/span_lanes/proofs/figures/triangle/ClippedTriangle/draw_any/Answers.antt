use Rattle.std.proofs.Common.{◌≡◌, ◌∙◌, sym, ap, subst}
use Rattle.span_lanes.specs.Figures.ClippedTriangle.{drawn_state}
use Rattle.span_lanes.specs.Draws.{CanDraw}
use Rattle.span_lanes.specs.Pattern.{Pattern, run_span, uniform}
use Rattle.span_lanes.specs.Figures.Triangles.{paint_with}
use Rattle.span_lanes.specs.declared.figures.triangle.ClippedTriangle.{ClippedTriangle}
use Rattle.span_lanes.specs.declared.span.DrawState.{DrawState}
use Rattle.span_lanes.specs.declared.span.Paint.{Paint}
use Rattle.span_lanes.proofs.RunLemmas.{has_setup, is_clipped, tri_block, tri_can_draw, tri_drawn, tri_paints}
use Rattle.span_lanes.proofs.figures.triangle.ClippedTriangle.draw_any.Goals as goal

-- the drawer has the triangle's draw state
state_is : (triangle : ClippedTriangle) (paint : Paint) (own : DrawState)
    → paint ≡ paint_with triangle.state.paint triangle.tri.now
    → own ≡ record { paint = paint; brush = triangle.state.brush } → own ≡ drawn_state triangle
state_is triangle paint own is has =
    let painted : Paint → DrawState = λ p. record { paint = p; brush = triangle.state.brush } in
    has ∙ ap painted is

pub new-drawer-requires : goal.new-drawer-requires
new-drawer-requires g c = rw c.paint.ensures (has_setup c.args.self.tri.now c.args.self.state.paint)

pub rows-requires : goal.rows-requires
rows-requires g c = is_clipped _ _ c.requires

pub draw_rows-requires-clause-clip_rect : goal.draw_rows-requires-clause-clip_rect
draw_rows-requires-clause-clip_rect g c = tri_block _ _ _ c.rows.ensures c.requires.can.small

pub draw_rows-requires-clause-can : goal.draw_rows-requires-clause-can
draw_rows-requires-clause-can g c y run gives = (
  subst (λ (p : Pattern). CanDraw (run_span p y run) c.args.vram.now)
      (sym (ap (λ (state : DrawState). uniform state)
      (state_is c.args.self _ _ c.paint.ensures c.new-drawer.ensures.state)))
      (tri_can_draw _ _ _ c.rows.ensures c.args.self.state y run c.args.vram.now c.requires.can gives),
  tt,
)

pub draw_rows-requires-clause-fresh : goal.draw_rows-requires-clause-fresh
draw_rows-requires-clause-fresh g c = (c.new-drawer.ensures.ready, c.new-drawer.ensures.fresh c.args.vram.now)

pub returns : goal.returns
returns g c =
    let state = drawn_state c.args.self in
    tri_drawn _ _ _ c.rows.ensures _ _ _
    (c.draw_rows.ensures (uniform state)
    (λ y run gives. tri_paints _ _ _ c.rows.ensures c.args.self.state _ y run
    (ap (λ (state : DrawState). uniform state)
    (state_is c.args.self _ _ c.paint.ensures c.new-drawer.ensures.state)) gives))
