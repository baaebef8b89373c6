-- The attributes of a triangle with their ramps (our own rule).
use Rattle.edge_walk.specs.Plane.{IsPlane}
use Rattle.edge_walk.specs.Triangle.{Corners}
use Rattle.span_lanes.specs.declared.attributes.ramps.AttributeRamps.{AttributeRamps}
use Rattle.span_lanes.specs.declared.attributes.ramps.ColorRamps.{ColorRamps}
use Rattle.span_lanes.specs.declared.attributes.ramps.CoordRamps.{CoordRamps}
use Rattle.span_lanes.specs.declared.span.Paint.{Paint}
use Rattle.span_lanes.specs.declared.span.Paint.TheVariants.{Shaded, TexturedTri}

-- the texel coordinates of a triangle
pub record AreCoordRamps (tri : Corners) (coord_ramps : CoordRamps) : Type 0 where
  pub u : IsPlane tri 3 coord_ramps.u.plane
  pub v : IsPlane tri 4 coord_ramps.v.plane

-- the colour channels of a triangle
pub record AreColorRamps (tri : Corners) (colors : ColorRamps) : Type 0 where
  pub red : IsPlane tri 0 colors.red.plane
  pub green : IsPlane tri 1 colors.green.plane
  pub blue : IsPlane tri 2 colors.blue.plane

-- the texel coordinates of a paint that is a textured triangle
abbrev pub AreCoordRampsOf : Paint → CoordRamps → Type 0
AreCoordRampsOf (TexturedTri tri texture) coord_ramps = AreCoordRamps tri coord_ramps
AreCoordRampsOf paint coord_ramps = ⊥

-- the colour channels of a paint that is a triangle
abbrev pub AreColorsOf : Paint → ColorRamps → Type 0
AreColorsOf (Shaded tri) colors = AreColorRamps tri colors
AreColorsOf (TexturedTri tri texture) colors = AreColorRamps tri colors
AreColorsOf paint colors = ⊥

-- coordinates and channels of a paint that is a textured triangle
pub record AreAttributeRampsOf (paint : Paint) (ramps : AttributeRamps) : Type 0 where
  pub coord_ramps : AreCoordRampsOf paint ramps.coord_ramps
  pub colors : AreColorsOf paint ramps.colors
