-- Halfwords that may replace the values of cells.
use Rattle.std.proofs.Common.{◌≡◌, ℕ, ℤ, false, refl, inl, inr}
use Rattle.vram_store.specs.Plot.{is_kept, is_testing}
use Rattle.span_lanes.specs.declared.span.Brush.{Brush}
use Rattle.span_lanes.specs.Shade.{flat_pixel, blended_if}
use Rattle.span_lanes.specs.Chunks.Lanes.{DoesFor}

-- the pixel of a 24-bit colour without a texture
pub flat_back : (brush : Brush) (color : ℕ) (shift : ℤ) (cell h : ℕ) → DoesFor brush cell h
    → flat_pixel brush color shift cell ≡ flat_pixel brush color shift h
unfolding flat_pixel blended_if
flat_back brush color shift cell h (inl e) = rw e refl
flat_back brush color shift cell h (inr free) = rw free.0 refl

-- no cell is protected if none is tested
pub kept_free : (mask cell : ℕ) → is_testing mask ≡ false → is_kept mask cell ≡ false
unfolding is_kept
kept_free mask cell free = rw free refl
