-- Spans whose cells all become one halfword.
use Rattle.std.proofs.Common.{◌≡◌, ◌<◌, ◌≤◌, ℕ, List, Some, Bool, true, false, not, ◌&&◌, ◌||◌, pos, ℤ, ◌+◌, ◌^◌}
use Rattle.std.proofs.Common.{get_or, refl, sym, ap, ◌∙◌, arith}
use Rattle.px_num.specs.Lanes.{EachLane}
use Rattle.vram_store.specs.Vram.{at}
use Rattle.vram_store.specs.Plot.{later, is_testing, is_kept, forced, written_over}
use Rattle.vram_store.specs.Chunk.{IsBlind, HasLanes}
use Rattle.vram_store.proofs.Ones.{ones}
use Rattle.blend_dither.specs.Color.{tone_of, red_of, green_of, blue_of}
use Rattle.span_lanes.specs.declared.span.Brush.{Brush}
use Rattle.span_lanes.specs.declared.span.Paint.TheVariants.{Flat}
use Rattle.span_lanes.specs.declared.span.Span.{Span}
use Rattle.span_lanes.specs.Shade.{shade, blended_if, flat_pixel}
use Rattle.span_lanes.specs.Chunks.Lanes.{IsSolid}
use Rattle.span_lanes.proofs.ColorLemmas.{no_shift}
use Rattle.span_lanes.proofs.UntexturedLemmas.{toned_is}

even : (semi testing dither : Bool) → (not (semi || testing) && not dither) ≡ true → (semi ≡ false) × (testing ≡ false)
    × (dither ≡ false)
even false false false e = (refl, refl, refl)
even false false true e = absurd (cc)
even false true dither e = absurd (cc)
even true testing dither e = absurd (cc)

pixel : (brush : Brush) (color back : ℕ) (t : ℕ) → t ≡ tone_of (red_of color) (green_of color) (blue_of color) (pos 0)
    → t < 2 ^ 15 → brush.semi ≡ false
    → flat_pixel brush color (pos 0) back ≡ Some t
unfolding blended_if
pixel brush color back t e low semi = toned_is brush color (pos 0) back t t e (rw semi refl) low

written : (mask cell t : ℕ) → is_testing mask ≡ false → written_over mask cell (Some t) ≡ Some (forced mask t)
unfolding is_kept
written mask cell t never = rw never refl

-- one colour, neither dithered nor blended, over cells that are not tested
pub solid_flat : (span : Span) (color t h : ℕ) → span.paint ≡ Flat color
    → (not (span.brush.semi || is_testing span.brush.mask) && not span.brush.dither) ≡ true
    → t ≡ tone_of (red_of color) (green_of color) (blue_of color) (pos 0) → t < 2 ^ 15 → h ≡ forced span.brush.mask t
    → IsSolid span h
unfolding shade
solid_flat span color t h paint free tone low force =
    let free = even span.brush.semi (is_testing span.brush.mask) span.brush.dither free in
    let one : (i : ℕ) (m : List ℕ)
    → shade span i m
    ≡ Some t = (λ i m. rw paint
    (ap (λ (z : ℤ). flat_pixel span.brush color z (at m (span.x + i) span.y))
    (no_shift span.brush.dither (span.x + i) span.y free.2) ∙ pixel span.brush color _ t tone low free.0)) in
    record {
      same = λ i m now. one i now ∙ sym (one i m);
      written = λ i cell m. rw (one i m, force) (written span.brush.mask cell t free.1);
    }

module _ (span : Span) (h : ℕ) (solid : IsSolid span h) (first start k : ℕ) (m : List ℕ) where
  pub solid_blind : IsBlind (later (shade span) first) start k m
  solid_blind = record { blind = λ j lt now agree. solid.same (first + j) m now }

  pub solid_lanes : (lanes : List ℕ) → k ≤ 16 → EachLane (λ i. get_or lanes i 0 ≡ h)
      → HasLanes (later (shade span) first) span.brush.mask start m (record { n = k; lanes = lanes; bits = 65535 })
  solid_lanes lanes few same = record {
    lane = λ j lt. rw (solid.written (first + j) (get_or m (start + j) 0) m)
        (ones j (omega arith), same j (omega arith));
  }
