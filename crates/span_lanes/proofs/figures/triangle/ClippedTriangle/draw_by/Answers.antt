use Rattle.std.proofs.Common.{◌≡◌, ◌∙◌, sym, ap, subst}
use Rattle.span_lanes.specs.Figures.ClippedTriangle.{HasTexture, drawn_state}
use Rattle.span_lanes.specs.Draws.{CanDraw}
use Rattle.span_lanes.specs.Pattern.{LiesInClip, Pattern, run_span, uniform}
use Rattle.span_lanes.specs.TriangleDrawer.{textured_state}
use Rattle.span_lanes.specs.Figures.Triangles.{paint_with}
use Rattle.span_lanes.specs.declared.figures.triangle.ClippedTriangle.{ClippedTriangle}
use Rattle.span_lanes.specs.declared.span.ClipRect.{ClipRect}
use Rattle.span_lanes.specs.declared.span.DrawState.{DrawState}
use Rattle.span_lanes.specs.declared.figures.triangle.TrianglePaint.{TrianglePaint}
use Rattle.texel_lanes.specs.declared.texture.Texture.{Texture}
use Rattle.span_lanes.proofs.RunLemmas.{is_clipped, tri_block, tri_can_draw, tri_drawn, tri_paints}
use Rattle.span_lanes.proofs.figures.triangle.ClippedTriangle.draw_by.Goals as goal

-- the drawer has the triangle's draw state
state_is : (triangle : ClippedTriangle) (t : Texture) (own : DrawState) → HasTexture triangle t
    → own ≡ textured_state triangle.tri.now t triangle.state.brush → own ≡ drawn_state triangle
state_is triangle t own has is =
    let painted : TrianglePaint → DrawState = λ paint. record {
      paint = paint_with paint triangle.tri.now;
      brush = triangle.state.brush;
    } in
    is ∙ ap painted (sym has)

pub rows-requires : goal.rows-requires
rows-requires g c = is_clipped _ _ c.requires.can

pub draw_rows-requires-clause-clip_rect : goal.draw_rows-requires-clause-clip_rect
draw_rows-requires-clause-clip_rect g c = tri_block _ _ _ c.rows.ensures c.requires.can.can.small

pub draw_rows-requires-clause-can : goal.draw_rows-requires-clause-can
draw_rows-requires-clause-can g c y run gives =
    let is = state_is c.args.self.now c.args.texture.now _ c.requires.texture c.new-drawer.ensures.state in (
      subst (λ (p : Pattern). CanDraw (run_span p y run) c.args.vram.now)
          (sym (ap (λ (state : DrawState). uniform state) is))
          (tri_can_draw _ _ _ c.rows.ensures c.args.self.now.state y run c.args.vram.now c.requires.can.can gives),
      subst (λ (b : ClipRect). LiesInClip b y run)
          (c.rows.ensures.clip_rect ∙ sym (c.new-drawer.ensures.clip ∙ c.requires.can.clip_rect)) gives.1,
    )

pub returns : goal.returns
returns g c =
    let is = state_is c.args.self.now c.args.texture.now _ c.requires.texture c.new-drawer.ensures.state in
    let state = drawn_state c.args.self.now in
    tri_drawn _ _ _ c.rows.ensures _ _ _
    (c.draw_rows.ensures (uniform state)
    (λ y run gives. tri_paints _ _ _ c.rows.ensures c.args.self.now.state _ y run
    (ap (λ (state : DrawState). uniform state) is) gives))
