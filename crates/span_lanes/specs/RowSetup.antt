-- The values that all chunks of a textured span share.
use Rattle.std.specs.Prelude.{ℕ, ◌≡◌, ◌+◌, ◌<◌, ◌&&◌, not, IsTrue, List, Some, length, slice_index}
use Rattle.span_lanes.specs.declared.span.Chunk.{Chunk}
use Rattle.span_lanes.specs.declared.clut.modulated.ModulatedTexels.{ModulatedTexels}
use Rattle.span_lanes.specs.declared.rows.by_coords.RowSetup.{RowSetup}
use Rattle.span_lanes.specs.declared.attributes.shading.RowShading.{RowShading}
use Rattle.texel_lanes.specs.declared.texture.Texture.{Texture}
use Rattle.span_lanes.specs.declared.span.Span.{Span}
use Rattle.texel_lanes.specs.Texture.{texel}
use Rattle.span_lanes.specs.Shade.{modulated_texel, dither_of, texture_of}
use Rattle.span_lanes.specs.Hazard.Guard.{IsHazardFree}
use Rattle.span_lanes.specs.Attributes.RowColors.{AreRowColors}
use Rattle.span_lanes.specs.Chunks.Lanes.{AreDitherLanesAt}
use Rattle.span_lanes.specs.Attributes.TexCoords.{AreTexCoords}
use Rattle.span_lanes.specs.Paints.{paint_color, chunk_u, chunk_v}

-- the colours of a textured span, and its dither offsets
pub record IsRowShading (span : Span) (t : Texture) (shading : RowShading) : Type 0 where
  pub row_colors : AreRowColors span.paint span.x span.y span.n shading.row_colors
  pub dither_lanes : AreDitherLanesAt (span.brush.dither && not t.raw) span.x span.y shading.dither_lanes.lanes

pub record IsRowSetup (span : Span) (row_setup : RowSetup) : Type 0 where
  pub texture : texture_of span.paint ≡ Some row_setup.texture
  pub shading : IsRowShading span row_setup.texture row_setup.shading
  pub coords : AreTexCoords span.paint span.x span.y span.n row_setup.coords
  pub hazard_free : IsTrue row_setup.hazard_free → IsHazardFree span

-- sixteen lanes, the first of them the texels of a chunk
pub record HasTexels (t : Texture) (p : Chunk) (m lanes : List ℕ) : Type 0 where
  pub long : length lanes ≡ 16
  pub value : (j : ℕ) → j < p.k → slice_index lanes j ≡ texel t (chunk_u p j) (chunk_v p j) m

-- the first lanes are the texels of a chunk, modulated by their colours
abbrev pub AreModulated : (t : Texture) (p : Chunk) (texels modulated : List ℕ) → Type 0
AreModulated t p texels modulated =
    let s = p.span.now in
    (j : ℕ) → j < p.k → slice_index modulated j
    ≡ modulated_texel t.raw (paint_color s.paint (s.x + p.first + j) s.y)
    (dither_of (s.brush.dither && not t.raw) (s.x + p.first + j) s.y) (slice_index texels j)

-- the texels of a chunk, and the same texels modulated
pub record AreDrawn (t : Texture) (p : Chunk) (m : List ℕ) (drawn : ModulatedTexels) : Type 0 where
  pub texels : HasTexels t p m drawn.texels
  pub long : length drawn.modulated ≡ 16
  pub front : AreModulated t p drawn.texels drawn.modulated
