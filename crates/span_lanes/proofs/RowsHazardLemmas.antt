-- Rows of texels of a rectangle without a hazard.
use Rattle.std.proofs.Common.{◌≡◌, ◌≢◌, ◌<◌, ◌≤◌, ℕ, false, ◌+◌, ◌-◌, arith}
use Rattle.texel_lanes.proofs.ContiguousLemmas.{open_window}
use Rattle.span_lanes.specs.ClipRect.{IsInClip}
use Rattle.span_lanes.specs.Hazard.HazardFree.{AreTexelsApart}
use Rattle.span_lanes.specs.TexelRows.{texel_row, texel_span}
use Rattle.span_lanes.specs.declared.rows.texel_rows.TexelRows.{TexelRows}
use Rattle.span_lanes.proofs.TexelRunLemmas.{rising}

-- a whole row of the clip rectangle is in it
pub whole_row : (rows : TexelRows) (y : ℕ) → rows.clip_rect.y ≤ y → y < rows.clip_rect.y + rows.clip_rect.h
    → IsInClip rows.clip_rect rows.clip_rect.x y rows.clip_rect.w
whole_row rows y top bottom = record { left = omega arith; right = omega arith; top = top; bottom = bottom }

-- texels and cells that move down together: the first row decides (our own rule: the rows before a row are finished)
pub rows_apart : (rows : TexelRows) (y : ℕ) → rows.texture.window.mask_y ≡ 0 → rows.falls ≡ false
    → rows.v + rows.clip_rect.h ≤ 256 → rows.texture.page.y + rows.v ≢ rows.clip_rect.y
    → rows.clip_rect.y ≤ y → y < rows.clip_rect.y + rows.clip_rect.h
    → AreTexelsApart (texel_span rows y (texel_row rows y)) rows.texture
rows_apart rows y clear rises fits other top bottom = record {
  apart = λ i k lt low before across down.
      let r : ℕ = y - rows.clip_rect.y in
      let small : rows.v + r ≤ 255 = omega arith in
      let row = rising rows.v r small in
      let same = open_window rows.texture.window.mask_y rows.texture.window.off_y (rows.v + r) clear small in
      let here = rw (rises, row, same) at down in
      other (omega (arith, here));
}
