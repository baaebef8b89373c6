-- Pixels without a texture.
use Rattle.std.proofs.Common.{◌≡◌, ◌<◌, ℕ, ℤ, List, Option, None, Some, Bool, true, false, cond}
use Rattle.std.proofs.Common.{◌+◌, ◌^◌, inl, inr, refl, ap}
use Rattle.std.proofs.Common.{◌∙◌, arith}
use Rattle.vram_store.specs.Vram.{at}
use Rattle.vram_store.specs.Plot.{is_kept, forced, written_over}
use Rattle.vram_store.specs.Chunk.{IsLane}
use Rattle.blend_dither.specs.Color.{packed_pixel, tone_of, red_of, green_of, blue_of}
use Rattle.span_lanes.specs.declared.span.Brush.{Brush}
use Rattle.span_lanes.specs.declared.span.Paint.{Paint}
use Rattle.span_lanes.specs.declared.span.Paint.TheVariants.{Flat, Shaded, TexturedTri, TexturedRow}
use Rattle.span_lanes.specs.declared.span.Span.{Span}
use Rattle.span_lanes.specs.Shade.{texture_of, flat_pixel, blended_if, dither_of, paint_pixel, shade}
use Rattle.span_lanes.specs.Chunks.Lanes.{DoesFor}
use Rattle.span_lanes.specs.Paints.{paint_color}
use Rattle.span_lanes.proofs.BackLemmas.{kept_free}

paint_toned : (paint : Paint) (brush : Brush) (x y i : ℕ) (m : List ℕ) → texture_of paint ≡ None
    → paint_pixel paint brush x y i m ≡ flat_pixel brush (paint_color paint x y) (dither_of brush.dither x y) (at m x y)
paint_toned (Flat color) brush x y i m none = refl
paint_toned (Shaded tri) brush x y i m none = refl
paint_toned (TexturedTri tri texture) brush x y i m none = absurd (cc)
paint_toned (TexturedRow color texture u v flip) brush x y i m none = absurd (cc)

pub shade_toned : (span : Span) (i x : ℕ) (m : List ℕ) → texture_of span.paint ≡ None → x ≡ span.x + i
    → shade span i m ≡ flat_pixel span.brush (paint_color span.paint x span.y) (dither_of span.brush.dither x span.y)
    (at m x span.y)
unfolding shade
shade_toned span i x m none e = rw e (paint_toned span.paint span.brush (span.x + i) span.y i m none)

packed_low : (p x : ℕ) → x ≡ p → x < 2 ^ 15 → packed_pixel p false false ≡ x
packed_low p x e lt = omega arith

pub toned_is : (brush : Brush) (color : ℕ) (shift : ℤ) (back t h : ℕ)
    → t ≡ tone_of (red_of color) (green_of color) (blue_of color) shift
    → h ≡ blended_if brush.semi brush.mode back t → h < 2 ^ 15 → flat_pixel brush color shift back ≡ Some h
unfolding flat_pixel
toned_is brush color shift back t h tone e low =
    ap (λ (n : ℕ). Some n) (packed_low _ h (e ∙ ap (blended_if brush.semi brush.mode back) tone) low)

-- a lane that has a pixel
pub toned_lane : (brush : Brush) (cell back : ℕ) (pixel : Option ℕ) (p w b h : ℕ) → pixel ≡ Some p
    → DoesFor brush cell back → b ≡ 1 → w ≡ forced brush.mask p → h ≡ cond (is_kept brush.mask back) back w
    → IsLane (written_over brush.mask cell pixel) b h cell
toned_lane brush cell back pixel p w b h e does one write over =
    rw e (by_back does (over ∙ ap (cond (is_kept brush.mask back) back) write))
  where
    by_kept : (cached : Bool) (q : ℕ) → h ≡ cond cached cell q → IsLane (cond cached None (Some q)) b h cell
    by_kept true q e = inr e
    by_kept false q e = (one, e)

    by_back : DoesFor brush cell back → h ≡ cond (is_kept brush.mask back) back (forced brush.mask p)
        → IsLane (cond (is_kept brush.mask cell) None (Some (forced brush.mask p))) b h cell
    by_back (inl same) e = by_kept (is_kept brush.mask cell) (forced brush.mask p) (rw same at e)
    by_back (inr free) e =
        let off : is_kept brush.mask back ≡ false = kept_free brush.mask back free.1 in
        let shut : is_kept brush.mask cell ≡ false = kept_free brush.mask cell free.1 in
        rw shut (one, rw off at e)
