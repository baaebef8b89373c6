-- Texels of a chunk.
use Rattle.std.proofs.Common.{◌≡◌, ◌<◌, ◌≤◌, ℕ, ℤ, zero, suc, List, Option, None, Some, Bool, true}
use Rattle.std.proofs.Common.{slice_index, sym, false, cond, eqb, ◌&&◌, ◌||◌, not, ◌+◌, inr, refl, ap}
use Rattle.std.proofs.Common.{◌∙◌, ◌^◌, IsTrue, arith}
use Rattle.std.proofs.lemmas.Bool.Decides.{nat_tests}
use Rattle.vram_store.specs.Vram.{at}
use Rattle.px_num.specs.Fold.{each_below}
use Rattle.px_num.specs.Lanes.{EachLane}
use Rattle.vram_store.specs.Plot.{is_kept, forced, written_over, draw_lane, drawn_lanes, later}
use Rattle.vram_store.specs.Chunk.{IsLane}
use Rattle.blend_dither.specs.Color.{packed_pixel}
use Rattle.span_lanes.specs.declared.span.Brush.{Brush}
use Rattle.span_lanes.specs.declared.span.Chunk.{Chunk}
use Rattle.texel_lanes.specs.declared.texture.Texture.{Texture}
use Rattle.span_lanes.specs.declared.span.Paint.{Paint}
use Rattle.span_lanes.specs.declared.span.Paint.TheVariants.{Flat, Shaded, TexturedTri, TexturedRow}
use Rattle.span_lanes.specs.declared.span.Span.{Span}
use Rattle.texel_lanes.specs.Texture.{texel}
use Rattle.span_lanes.specs.Shade.{texture_of, textured_pixel, blended_if, modulated_texel, is_high, dither_of}
use Rattle.span_lanes.specs.Shade.{paint_pixel, shade}
use Rattle.span_lanes.specs.Chunks.Lanes.{IsDrawnOver}
use Rattle.span_lanes.specs.Chunks.Chunk.{chunk_place, drawn_chunk}
use Rattle.span_lanes.specs.RowSetup.{HasTexels}
use Rattle.span_lanes.specs.Paints.{paint_color, paint_u, paint_v, chunk_u, chunk_v}

-- a halfword has its own bit 15
pub as_it_is : (h : ℕ) → h < 2 ^ 16 → h ≡ packed_pixel h (is_high h) false
as_it_is h few = grind (arith, nat_tests)

-- raw texels are not modulated
pub raw_front : (raw : Bool) (color : ℕ) (shift : ℤ) (t h : ℕ) → IsTrue raw → h ≡ modulated_texel raw color shift t
    → h ≡ t
unfolding modulated_texel
raw_front true color shift t h is front = front
raw_front false color shift t h is front = absurd (cc is)

paint_textured : (paint : Paint) (t : Texture) (brush : Brush) (x y i : ℕ) (m : List ℕ) → texture_of paint ≡ Some t
    → paint_pixel paint brush x y i m
    ≡ textured_pixel brush t.raw (paint_color paint x y) (dither_of (brush.dither && not t.raw) x y) (at m x y)
    (texel t (paint_u paint x y i) (paint_v paint x y i) m)
paint_textured (Flat color) t brush x y i m is = absurd (cc)
paint_textured (Shaded tri) t brush x y i m is = absurd (cc)
paint_textured (TexturedTri tri texture) t brush x y i m is = let e : texture ≡ t = cc in rw e refl
paint_textured (TexturedRow color texture u v flip) t brush x y i m is = let e : texture ≡ t = cc in rw e refl

pub shade_textured : (span : Span) (t : Texture) (i x : ℕ) (m : List ℕ) → texture_of span.paint ≡ Some t
    → x ≡ span.x + i
    → shade span i m
    ≡ textured_pixel span.brush t.raw (paint_color span.paint x span.y)
    (dither_of (span.brush.dither && not t.raw) x span.y) (at m x span.y)
    (texel t (paint_u span.paint x span.y i) (paint_v span.paint x span.y i) m)
unfolding shade
shade_textured span t i x m is e = rw e (paint_textured span.paint t span.brush (span.x + i) span.y i m is)

-- a lane whose texel may be transparent
pub textured_lane : (mask cell : ℕ) (pixel : Option ℕ) (brush : Brush) (raw : Bool) (color : ℕ) (shift : ℤ)
    (t p front b h : ℕ)
    → pixel ≡ textured_pixel brush raw color shift cell t
    → front ≡ modulated_texel raw color shift t
    → p ≡ packed_pixel (blended_if (brush.semi && is_high t) brush.mode cell front) (is_high t) false
    → b ≡ 1 → IsDrawnOver mask cell t p h
    → IsLane (written_over mask cell pixel) b h cell
unfolding textured_pixel
textured_lane mask cell pixel brush raw color shift t p front b h is front_is plotted one over =
    rw is (by_texel (eqb t 0)
    (packed_pixel (blended_if (brush.semi && is_high t) brush.mode cell (modulated_texel raw color shift t))
    (is_high t) false)
    (plotted ∙ ap (λ (f : ℕ). packed_pixel (blended_if (brush.semi && is_high t) brush.mode cell f) (is_high t) false)
    front_is) over)
  where
    by_kept : (cached : Bool) (q : ℕ) → h ≡ cond cached cell q → IsLane (cond cached None (Some q)) b h cell
    by_kept true q e = inr e
    by_kept false q e = (one, e)

    by_texel : (none : Bool) (q : ℕ) → p ≡ q → h ≡ cond (none || is_kept mask cell) cell (forced mask p)
        → IsLane (written_over mask cell (cond none None (Some q))) b h cell
    by_texel true q same e = inr e
    by_texel false q same e = by_kept (is_kept mask cell) (forced mask q)
        (e ∙ ap (λ (n : ℕ). cond (is_kept mask cell) cell (forced mask n)) same)

none_drawn : (shade : ℕ → List ℕ → Option ℕ) (mask start n : ℕ) (m : List ℕ)
    → ((j : ℕ) → j < n → shade j m ≡ None) → each_below (draw_lane shade mask start) n m ≡ m
none_drawn shade mask start zero m none = refl
none_drawn shade mask start (suc n) m none =
    rw (none_drawn shade mask start n m (λ j lt. none j (omega arith)), none n (omega arith)) refl

-- a chunk whose texels are all 0 changes nothing
pub empty_chunk : (t : Texture) (p : Chunk) (m texels : List ℕ) → texture_of p.span.now.paint ≡ Some t
    → HasTexels t p m texels → p.k ≤ 16 → EachLane (λ i. slice_index texels i ≡ 0) → m ≡ drawn_chunk p m
unfolding drawn_lanes textured_pixel
empty_chunk t p m texels is has few empty =
    let span = p.span.now in
    sym (none_drawn (later (shade span) p.first) span.brush.mask (chunk_place span p.first) p.k m (λ j lt.
    let none : texel t (chunk_u p j) (chunk_v p j) m ≡ 0 = sym (has.value j lt) ∙ empty j (omega arith) in
    shade_textured span t (p.first + j) (span.x + p.first + j) m is (omega arith) ∙ rw none refl))
