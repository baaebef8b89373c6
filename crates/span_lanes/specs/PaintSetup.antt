-- Paints that are set up for drawing.
use Rattle.std.specs.Prelude.{◌≡◌, Option, None, Some}
use Rattle.span_lanes.specs.declared.rows.row_drawer.PaintSetup.{PaintSetup}
use Rattle.span_lanes.specs.declared.rows.row_drawer.PaintSetup.TheVariants.{One, Gouraud, Tri}
use Rattle.span_lanes.specs.declared.rows.row_drawer.PaintSetup.TheVariants.{ContiguousTri}
use Rattle.span_lanes.specs.declared.attributes.shading.Shading.TheVariants.{OneColor}
use Rattle.span_lanes.specs.Attributes.AttributeRamps.{AreColorsOf}
use Rattle.span_lanes.specs.Paints.{row_paint}
use Rattle.span_lanes.specs.SpanDrawer.{IsShadingFor}
use Rattle.span_lanes.specs.declared.rows.texel_rows.TexelRow.{TexelRow}
use Rattle.span_lanes.specs.declared.span.DrawState.{DrawState}
use Rattle.span_lanes.specs.declared.span.Paint.{Paint}
use Rattle.span_lanes.specs.declared.span.Paint.TheVariants.{TexturedRow}
use Rattle.span_lanes.specs.Shade.{texture_of}
use Rattle.span_lanes.specs.TriangleDrawer.{AreContiguous}
use Rattle.span_lanes.specs.Attributes.TriangleSetup.{IsSetupOf}
use Rattle.texel_lanes.specs.Texture.{IsTexture}

-- the values that all spans of a paint and a brush share
abbrev pub IsPaintSetup : DrawState → PaintSetup → Type 0
IsPaintSetup state (One color) = (texture_of state.paint ≡ None) × IsShadingFor state.paint (OneColor color)
IsPaintSetup state (Gouraud ramps) = (texture_of state.paint ≡ None) × AreColorsOf state.paint ramps
IsPaintSetup state (Tri setup) = IsSetupOf state setup
IsPaintSetup state (ContiguousTri setup) =
    IsSetupOf state setup × (IsTexture setup.texture → AreContiguous setup.tri setup.texture)

-- a paint that has a setup: any but a row of texels
abbrev pub HasSetup : Paint → Type 0
HasSetup (TexturedRow color texture u v flip) = ⊥
HasSetup paint = Unit {0}

-- the row of texels that a paint is, if it is one
abbrev pub HasTexelRow : Paint → Option TexelRow → Type 0
HasTexelRow paint None = HasSetup paint
HasTexelRow paint (Some row) = paint ≡ row_paint row
