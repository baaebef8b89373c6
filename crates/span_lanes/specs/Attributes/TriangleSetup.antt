-- Textured triangles, set up for their rows.
use Rattle.std.specs.Prelude.{ℕ, ◌≡◌, List}
use Rattle.edge_walk.specs.Triangle.{Corners}
use Rattle.texel_lanes.specs.declared.texture.Texture.{Texture}
use Rattle.span_lanes.specs.declared.attributes.triangle_setup.TriangleSetup.{TriangleSetup}
use Rattle.span_lanes.specs.declared.span.Brush.{Brush}
use Rattle.span_lanes.specs.declared.span.Paint.TheVariants.{TexturedTri}
use Rattle.span_lanes.specs.declared.span.Span.{Span}
use Rattle.span_lanes.specs.Draws.{CanDraw}
use Rattle.span_lanes.specs.Hazard.Guard.{IsHazardFree}
use Rattle.span_lanes.specs.SpanDrawer.{AreCoordPlanes, IsShadingOf, state_of}
use Rattle.span_lanes.specs.declared.span.DrawState.{DrawState}

-- the colour and coordinate planes are those of the triangle
pub record IsTriangleSetup (setup : TriangleSetup) : Type 0 where
  pub colors : IsShadingOf setup.tri setup.shading
  pub coord_planes : AreCoordPlanes setup.tri setup.coord_planes

-- the setup of a paint and a brush
pub record IsSetupOf (state : DrawState) (setup : TriangleSetup) : Type 0 where
  pub paint : state.paint ≡ TexturedTri setup.tri setup.texture
  pub brush : state.brush ≡ setup.brush
  pub ready : IsTriangleSetup setup

-- the setup of a triangle, a texture and a brush
pub record IsSetupFor (corners : Corners) (t : Texture) (with : Brush) (setup : TriangleSetup) : Type 0 where
  pub tri : setup.tri ≡ corners
  pub texture : setup.texture ≡ t
  pub brush : setup.brush ≡ with
  pub ready : IsTriangleSetup setup

-- a span of a triangle can be drawn in video memory and has no hazard
pub record CanDrawSetup (setup : TriangleSetup) (span : Span) (m : List ℕ) : Type 0 where
  pub ready : IsSetupOf (state_of span) setup
  pub can : CanDraw span m
  pub hazard_free : IsHazardFree span
