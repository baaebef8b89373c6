-- The values that all chunks of a textured span share.
use Rattle.std.proofs.Common.{◌≡◌, ◌<◌, ◌≤◌, ℕ, List, Some, false, ◌+◌, ◌*◌, get_or, length, ap, ◌∙◌, arith}
use Rattle.overlap_guard.proofs.TestLemmas.{texture_iff, false_of}
use Rattle.overlap_guard.specs.Hazard.{has_texture_hazard}
use Rattle.texel_lanes.specs.declared.texture.Texture.{Texture}
use Rattle.span_lanes.specs.declared.span.Paint.{Paint}
use Rattle.span_lanes.specs.declared.span.Chunk.{Chunk}
use Rattle.span_lanes.specs.declared.attributes.tex_coords.TexCoords.{TexCoords}
use Rattle.texel_lanes.specs.Texture.{texel, texel_steps}
use Rattle.span_lanes.specs.Shade.{texture_of}
use Rattle.span_lanes.specs.Cost.{chunk_cost}
use Rattle.span_lanes.specs.Draws.{IsChunk}
use Rattle.span_lanes.specs.Hazard.Guard.{has_hazard, paint_texels, clut_of, target, IsHazardFree}
use Rattle.texel_lanes.specs.Texels.{AreCoordinates}
use Rattle.span_lanes.specs.Chunks.Lanes.{HasCoordinates, columns_from, rows_from}
use Rattle.span_lanes.specs.RowSetup.{HasTexels}
use Rattle.span_lanes.specs.Attributes.TexCoords.{coord_at, AreTexCoords}
use Rattle.span_lanes.specs.Paints.{paint_u, paint_v, chunk_u, chunk_v}
use Rattle.span_lanes.proofs.CostLemmas.{free_cost}

-- the coordinates of a chunk, from those of its span
pub coordinates_here : (paint : Paint) (x y n first k : ℕ) (coords : TexCoords) (us vs : List ℕ)
    → AreTexCoords paint x y n coords
    → first + k ≤ n → k ≤ 16
    → AreCoordinates us → AreCoordinates vs
    → ((j : ℕ) → j < 16 → get_or us j 0 ≡ coord_at coords.u first j)
    → ((j : ℕ) → j < 16 → get_or vs j 0 ≡ coord_at coords.v first j)
    → HasCoordinates (columns_from paint (x + first) y first) (rows_from paint (x + first) y first) k us vs
coordinates_here paint x y n first k coords us vs is within few across down u v = record {
  across = across;
  down = down;
  u = λ j lt. u j (omega arith) ∙ is.u first j (omega arith) (omega arith)
      ∙ ap (λ (c : ℕ). paint_u paint c y (first + j)) (omega arith);
  v = λ j lt. v j (omega arith) ∙ is.v first j (omega arith) (omega arith)
      ∙ ap (λ (c : ℕ). paint_v paint c y (first + j)) (omega arith);
}

-- the texels of a chunk, from their coordinates
pub texels_here : (p : Chunk) (t : Texture) (us vs m lanes : List ℕ)
    → HasCoordinates (chunk_u p) (chunk_v p) p.k us vs → length lanes ≡ 16
    → ((j : ℕ) → j < p.k → get_or lanes j 0 ≡ texel t (get_or us j 0) (get_or vs j 0) m)
    → HasTexels t p m lanes
texels_here p t us vs m lanes at long read = record {
  long = long;
  value = λ j lt. rw (at.u j lt, at.v j lt) at (read j lt);
}

-- a chunk of a span without a hazard has none
pub apart_free : (p : Chunk) (t : Texture) → IsChunk p → IsHazardFree p.span.now
    → texture_of p.span.now.paint ≡ Some t → has_hazard p.span.now p.first p.k ≡ false
unfolding has_hazard
apart_free p t is hazard_free of_paint =
    let span = p.span.now in
    let texels = paint_texels span.paint t span.x span.y p.first p.k in
    let to = target span.x span.y p.first in
    rw of_paint (false_of (has_texture_hazard texels (clut_of t) to p.k) (texture_iff texels (clut_of t) to p.k)
    (λ h. hazard_free.free p.first p.k is.cut is.few is.within (rw of_paint h)))

-- the cost of a chunk of a span without a hazard
pub apart_cost : (p : Chunk) (t : Texture) → IsChunk p → IsHazardFree p.span.now
    → texture_of p.span.now.paint ≡ Some t
    → chunk_cost p.span.now p.first p.k ≡ 2 + texel_steps t.page.depth * p.k
apart_cost p t is hazard_free of_paint =
    free_cost p.span.now t p.first p.k of_paint (apart_free p t is hazard_free of_paint)
