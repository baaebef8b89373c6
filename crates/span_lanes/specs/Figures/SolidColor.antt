-- Colours that every cell becomes, whatever its value.
use Rattle.std.specs.Prelude.{ℕ}
use Rattle.span_lanes.specs.Chunks.Lanes.{IsSolid}
use Rattle.span_lanes.specs.SpanDrawer.{state_span}
use Rattle.span_lanes.specs.declared.figures.solid.SolidColor.{SolidColor}
use Rattle.span_lanes.specs.declared.span.Brush.{Brush}
use Rattle.span_lanes.specs.declared.span.DrawState.{DrawState}
use Rattle.span_lanes.specs.declared.span.Paint.TheVariants.{Flat}

-- one colour without a texture
abbrev pub flat_state : (color : ℕ) → Brush → DrawState
flat_state color brush = record { paint = Flat color; brush = brush }

abbrev pub solid_state : SolidColor → DrawState
solid_state solid = flat_state solid.color solid.brush

-- the cells of each span become the same halfword
abbrev pub IsEven : SolidColor → Type 0
IsEven solid = (x y n : ℕ) → IsSolid (state_span (solid_state solid) x y n) solid.halfword
