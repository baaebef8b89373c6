-- Spans of texels, and the conditions under which they are drawn.
use Rattle.std.specs.Prelude.{ℕ, ◌≡◌, ◌<◌, List, slice_index}
use Rattle.px_num.specs.Lanes.{EachLane, AreBytes}
use Rattle.texture_page.specs.Page.{clut_place}
use Rattle.span_lanes.specs.declared.span.Chunk.{Chunk}
use Rattle.span_lanes.specs.declared.span.Span.{Span}
use Rattle.texel_lanes.specs.declared.texture.Texture.{Texture}
use Rattle.span_lanes.specs.declared.clut.modulated.ModulatedClut.{ModulatedClut}
use Rattle.span_lanes.specs.declared.attributes.shading.RowColors.TheVariants.{One}
use Rattle.span_lanes.specs.Draws.{CanSample}
use Rattle.span_lanes.specs.Hazard.Guard.{IsHazardFree}
use Rattle.span_lanes.specs.Attributes.RowColors.{AreRowColors}
use Rattle.span_lanes.specs.Paints.{chunk_u, chunk_v}
use Rattle.texel_lanes.specs.Texture.{at_cell, texel}
use Rattle.span_lanes.specs.Clut.ModulatedClut.{IsModulatedClut, IsModulatedClutOf, CanCacheClut}
use Rattle.span_lanes.specs.Clut.ModulatedClut256.{IsModulatedClut256Of}

-- a textured span without a hazard; `found` states that its texels can be found
pub record CanTakeTexels (s : Span) (t : Texture) (found : Type 0) (m : List ℕ) : Type 0 where
  pub sample : CanSample s t m
  pub hazard_free : IsHazardFree s
  pub finds : found

-- a span of one colour and texels of this depth whose CLUT can be modulated once
pub record CanModulateClut (d : ℕ) (s : Span) (t : Texture) (color : ℕ) (m : List ℕ) : Type 0 where
  pub sample : CanSample s t m
  pub suits : CanCacheClut d s t
  pub one_color : AreRowColors s.paint s.x s.y s.n (One color)

-- such a span whose modulated CLUT of sixteen entries is cached; `found` states that its texels can be found
pub record CanUseCached (s : Span) (t : Texture) (found : Type 0) (cached : ModulatedClut) (m : List ℕ) : Type 0 where
  pub can : CanModulateClut 0 s t cached.color m
  pub finds : found
  pub raw : cached.raw ≡ t.raw
  pub modulated : IsModulatedClut cached
  pub entries : IsModulatedClutOf t m cached

-- such a span whose modulated CLUT of 256 entries is cached
pub record CanUseCached256 (s : Span) (t : Texture) (color : ℕ) (words m : List ℕ) : Type 0 where
  pub can : CanModulateClut 1 s t color m
  pub entries : IsModulatedClut256Of t m color words

-- sixteen indexes of a CLUT of n entries, the first of them those of the texels of a chunk
pub record HasIndexes (t : Texture) (n : ℕ) (p : Chunk) (m lanes : List ℕ) : Type 0 where
  pub bytes : AreBytes lanes
  pub low : EachLane (λ i. slice_index lanes i < n)
  pub entry : (j : ℕ) → j < p.k → at_cell m (clut_place t.clut (slice_index lanes j))
      ≡ texel t (chunk_u p j) (chunk_v p j) m
