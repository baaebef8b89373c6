-- How the rows of a textured triangle are drawn in a clip rectangle in which no row has a hazard.
use Rattle.std.specs.Prelude.{ℕ, ◌≡◌, ◌≤◌, ◌+◌, ◌/◌, ◌&&◌, not, false, List, Some}
use Rattle.edge_walk.specs.Attribute.{IsUnscaled}
use Rattle.edge_walk.specs.Triangle.{Corners}
use Rattle.texel_lanes.specs.Texture.{IsTexture}
use Rattle.texel_lanes.specs.declared.texture.Texture.{Texture}
use Rattle.span_lanes.specs.declared.span.ClipRect.{ClipRect}
use Rattle.span_lanes.specs.declared.rows.triangle.RowMethod.{RowMethod}
use Rattle.span_lanes.specs.declared.rows.triangle.RowMethod.TheVariants.{CachedClut, Contiguous, FlatTexelsByCoords}
use Rattle.span_lanes.specs.declared.rows.triangle.RowMethod.TheVariants.{GouraudTexels}
use Rattle.span_lanes.specs.declared.attributes.ramps.AttributeRamps.{AttributeRamps}
use Rattle.span_lanes.specs.declared.attributes.ramps.CoordRamps.{CoordRamps}
use Rattle.span_lanes.specs.declared.attributes.triangle_setup.TriangleSetup.{TriangleSetup}
use Rattle.span_lanes.specs.declared.span.Brush.{Brush}
use Rattle.span_lanes.specs.declared.span.DrawState.{DrawState}
use Rattle.span_lanes.specs.declared.span.Paint.{Paint}
use Rattle.span_lanes.specs.declared.span.Paint.TheVariants.{TexturedTri}
use Rattle.span_lanes.specs.declared.span.Span.{Span}
use Rattle.span_lanes.specs.Draws.{CanDraw}
use Rattle.span_lanes.specs.Hazard.Guard.{IsHazardFree}
use Rattle.span_lanes.specs.declared.attributes.shading.Shading.TheVariants.{OneColor}
use Rattle.span_lanes.specs.ClipRect.{IsClipHazardFree}
use Rattle.span_lanes.specs.SpanDrawer.{IsShadingFor, IsShadingOf}
use Rattle.span_lanes.specs.Attributes.AttributeRamps.{AreCoordRampsOf, AreAttributeRampsOf}
use Rattle.span_lanes.specs.Shade.{texture_of}
use Rattle.span_lanes.specs.Attributes.TriangleSetup.{IsSetupOf}

-- the cells of a page's texels of any column, and those that are read with them, do not wrap
pub record DoesNotWrap (t : Texture) : Type 0 where
  pub wholes : 2 ≤ t.page.depth → t.page.x + 256 ≤ 1024
  pub eights : t.page.depth ≡ 1 → t.page.x + 256 / 2 + 16 ≤ 1024
  pub fours : t.page.depth ≡ 0 → t.page.x + 256 / 4 + 16 ≤ 1024

-- the texels of each row of a triangle are contiguous, wherever they are in their page
pub record AreContiguous (tri : Corners) (t : Texture) : Type 0 where
  pub texture : IsTexture t
  pub clear : t.window.mask_x ≡ 0
  pub room : DoesNotWrap t
  pub unscaled : IsUnscaled tri

-- the CLUT can be modulated once by this colour, which is that of all cells, and the brush is opaque
pub record CanCacheTriangle (tri : Corners) (t : Texture) (brush : Brush) (color : ℕ) : Type 0 where
  pub one : IsShadingOf tri (OneColor color)
  pub depth : t.page.depth ≡ 0
  pub even : (brush.dither && not t.raw) ≡ false
  pub mask : brush.mask ≡ 0
  pub semi : brush.semi ≡ false

-- the rows of a triangle may be drawn by a method
abbrev pub IsRowMethod : Corners → Texture → Brush → RowMethod → Type 0
IsRowMethod tri t brush (CachedClut color) = AreContiguous tri t × CanCacheTriangle tri t brush color
IsRowMethod tri t brush Contiguous = AreContiguous tri t
IsRowMethod tri t brush (FlatTexelsByCoords color) = IsShadingOf tri (OneColor color)
IsRowMethod tri t brush GouraudTexels = Unit {0}

-- the same, in a clip rectangle in which no row has a hazard
pub record SuitsMethod (tri : Corners) (t : Texture) (brush : Brush) (b : ClipRect) (method : RowMethod) : Type 0 where
  pub hazard_free : IsClipHazardFree b t
  pub fits : IsRowMethod tri t brush method

-- a span can be drawn in video memory and has no hazard
pub record CanDrawRow (span : Span) (m : List ℕ) : Type 0 where
  pub can : CanDraw span m
  pub hazard_free : IsHazardFree span

-- a paint has a texture, and no span of it in a clip rectangle has a hazard
pub record IsFreeIn (paint : Paint) (b : ClipRect) : Type 0 where
  pub t : Texture
  pub texture : texture_of paint ≡ Some t
  pub hazard_free : IsClipHazardFree b t

-- a triangle under a texture
abbrev pub textured_state : Corners → Texture → Brush → DrawState
textured_state tri t brush = record { paint = TexturedTri tri t; brush = brush }

-- ---- the four methods

-- contiguous texels
pub record IsContiguousMethod (state : DrawState) (setup : TriangleSetup) : Type 0 where
  pub ready : IsSetupOf state setup
  pub contiguous : AreContiguous setup.tri setup.texture

-- whose CLUT is cached
pub record IsCachedClutMethod (state : DrawState) (setup : TriangleSetup) (color : ℕ) : Type 0 where
  pub ready : IsSetupOf state setup
  pub contiguous : AreContiguous setup.tri setup.texture
  pub suits : CanCacheTriangle setup.tri setup.texture setup.brush color

-- texels by their coordinates, under one colour
pub record IsFlatTexelsMethod (state : DrawState) (t : Texture) (color : ℕ) (coord_ramps : CoordRamps) : Type 0 where
  pub texture : texture_of state.paint ≡ Some t
  pub color_is : IsShadingFor state.paint (OneColor color)
  pub ramps : AreCoordRampsOf state.paint coord_ramps

-- the drawer that computes coordinates and colours of each texel
pub record IsGouraudTexelsMethod (state : DrawState) (t : Texture) (ramps : AttributeRamps) : Type 0 where
  pub texture : texture_of state.paint ≡ Some t
  pub ramps_are : AreAttributeRampsOf state.paint ramps
