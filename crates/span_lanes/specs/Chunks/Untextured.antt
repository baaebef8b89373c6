-- Spans without a texture, and their colours.
use Rattle.std.specs.Prelude.{ℕ, ℤ, ◌≡◌, ◌+◌, ◌<◌, ◌^◌, List, None, length, slice_index}
use Rattle.px_num.specs.Lanes.{EachLane}
use Rattle.span_lanes.specs.declared.attributes.ramps.ColorRamps.{ColorRamps}
use Rattle.span_lanes.specs.declared.attributes.shading.RowColors.TheVariants.{One}
use Rattle.span_lanes.specs.declared.span.Chunk.{Chunk}
use Rattle.span_lanes.specs.declared.span.Span.{Span}
use Rattle.span_lanes.specs.Attributes.AttributeRamps.{AreColorsOf}
use Rattle.span_lanes.specs.Draws.{CanDraw}
use Rattle.span_lanes.specs.Attributes.RowColors.{AreRowColors}
use Rattle.span_lanes.specs.Chunks.Lanes.{AreDitherLanesAt, colors_from, tone_with}
use Rattle.span_lanes.specs.Shade.{dither_of, texture_of}

-- a span without a texture that can be drawn in video memory, with its dither offsets
pub record CanDrawUntextured (s : Span) (dither_lanes : List ℤ) (m : List ℕ) : Type 0 where
  pub can : CanDraw s m
  pub untextured : texture_of s.paint ≡ None
  pub offsets : AreDitherLanesAt s.brush.dither s.x s.y dither_lanes

-- such a span of one colour
pub record CanDrawFlat (s : Span) (color : ℕ) (dither_lanes : List ℤ) (m : List ℕ) : Type 0 where
  pub span : CanDrawUntextured s dither_lanes m
  pub colors : AreRowColors s.paint s.x s.y s.n (One color)

-- such a span of a triangle's colours
pub record CanDrawGouraud (s : Span) (ramps : ColorRamps) (dither_lanes : List ℤ) (m : List ℕ) : Type 0 where
  pub span : CanDrawUntextured s dither_lanes m
  pub colors : AreColorsOf s.paint ramps

-- the first lanes are the dithered 15-bit colours of a chunk
pub record AreTones (p : Chunk) (tones : List ℕ) : Type 0 where
  pub long : length tones ≡ 16
  pub low : EachLane (λ i. slice_index tones i < 2 ^ 15)
  pub value : (j : ℕ) → j < p.k → slice_index tones j
      ≡ tone_with (colors_from p.span.now.paint (p.span.now.x + p.first) p.span.now.y j)
      (dither_of p.span.now.brush.dither (p.span.now.x + p.first + j) p.span.now.y)
