-- Rows of texels in a clip rectangle.
use Rattle.std.specs.Prelude.{ℕ, List, ◌≡◌, ◌≤◌, ◌+◌, ◌-◌, ◌<◌, ◌/◌, ◌&&◌, not, Bool, IsTrue, false}
use Rattle.span_lanes.specs.Draws.{CanDraw}
use Rattle.span_lanes.specs.ClipRect.{IsInClip}
use Rattle.span_lanes.specs.Clut.ModulatedClut256.{IsModulatedClut256Of}
use Rattle.span_lanes.specs.Hazard.Guard.{IsHazardFree}
use Rattle.span_lanes.specs.SpanDrawer.{state_span}
use Rattle.span_lanes.specs.declared.span.DrawState.{DrawState}
use Rattle.span_lanes.specs.declared.span.Paint.TheVariants.{TexturedRow}
use Rattle.span_lanes.specs.declared.rows.texel_rows.TexelRow.{TexelRow}
use Rattle.span_lanes.specs.declared.span.ClipRect.{ClipRect}
use Rattle.span_lanes.specs.declared.span.Run.{Run}
use Rattle.span_lanes.specs.declared.span.Span.{Span}
use Rattle.span_lanes.specs.Pattern.{Pattern}
use Rattle.span_lanes.specs.Shade.{IsSpan, row_u}
use Rattle.span_lanes.specs.declared.rows.texel_rows.TexelRows.{TexelRows}

-- the draw state of row v of the page
abbrev pub texel_state : TexelRows → (v : ℕ) → DrawState
texel_state rows v =
    record { paint = TexturedRow rows.color rows.texture rows.u v rows.flip; brush = rows.brush }

-- row y of the clip rectangle, with the texels of row v of the page
abbrev pub texel_span : TexelRows → (y v : ℕ) → Span
texel_span rows y v = state_span (texel_state rows v) rows.clip_rect.x y rows.clip_rect.w

-- the row of the page whose texels row y of the clip rectangle has
abbrev pub texel_row : TexelRows → (y : ℕ) → ℕ
texel_row rows y = row_u rows.v rows.falls (y - rows.clip_rect.y)

-- row y of the clip rectangle can be drawn in video memory, and its texels are those of row v of the page
pub record CanDrawTexels (rows : TexelRows) (y v : ℕ) (m : List ℕ) : Type 0 where
  pub can : CanDraw (texel_span rows y v) m
  pub in_clip : IsInClip rows.clip_rect rows.clip_rect.x y rows.clip_rect.w
  pub row : v ≡ texel_row rows y

-- no row of the clip rectangle has a hazard
pub record AreRowsHazardFree (rows : TexelRows) : Type 0 where
  pub free : (y : ℕ) → rows.clip_rect.y ≤ y → y < rows.clip_rect.y + rows.clip_rect.h
      → IsSpan (texel_span rows y (texel_row rows y)) → IsHazardFree (texel_span rows y (texel_row rows y))

-- the texels of each row are contiguous, in cells that do not wrap, and no row has a hazard
pub record AreRowsContiguous (rows : TexelRows) : Type 0 where
  pub rises : rows.flip ≡ false
  pub clear : rows.texture.window.mask_x ≡ 0
  pub in_page : rows.u + rows.clip_rect.w ≤ 256
  pub wholes : 2 ≤ rows.texture.page.depth → rows.texture.page.x + (rows.u + rows.clip_rect.w) ≤ 1024
  pub eights : rows.texture.page.depth ≡ 1 → rows.texture.page.x + (rows.u + rows.clip_rect.w) / 2 + 16 ≤ 1024
  pub fours : rows.texture.page.depth ≡ 0 → rows.texture.page.x + (rows.u + rows.clip_rect.w) / 4 + 16 ≤ 1024
  pub hazard_free : AreRowsHazardFree rows

-- such rows of texels of this depth whose CLUT can be modulated once for all of them
pub record CanCacheRows (d : ℕ) (rows : TexelRows) : Type 0 where
  pub contiguous : AreRowsContiguous rows
  pub depth : rows.texture.page.depth ≡ d
  pub even : (rows.brush.dither && not rows.texture.raw) ≡ false

-- such rows whose CLUT has 256 entries, of texels that are modulated. The first chunk of each row has sixteen cells.
pub record CanCacheRows256 (rows : TexelRows) : Type 0 where
  pub cache : CanCacheRows 1 rows
  pub raw : rows.texture.raw ≡ false
  pub wide : 16 ≤ rows.clip_rect.w

-- once it is filled, the CLUT of 256 entries is that of the rows in video memory, modulated by their colour
abbrev pub IsCached256 : TexelRows → (m : List ℕ) → (filled : Bool) → (words : List ℕ) → Type 0
IsCached256 rows m filled words = IsTrue filled → IsModulatedClut256Of rows.texture m rows.color words

-- what each row of the clip rectangle is drawn with
abbrev pub rows_pattern : TexelRows → Pattern
rows_pattern rows = record { paint = λ cell. (texel_state rows (texel_row rows cell.y)).paint; brush = rows.brush }

-- all cells of row y of a clip rectangle
pub record IsWholeRow (b : ClipRect) (y : ℕ) (run : Run) : Type 0 where
  pub first : run.x ≡ b.x
  pub count : run.n ≡ b.w
  pub top : b.y ≤ y
  pub bottom : y < b.y + b.h

-- a row of texels with the values of these rows
pub record IsRowOf (rows : TexelRows) (row : TexelRow) : Type 0 where
  pub color : row.color ≡ rows.color
  pub texture : row.texture ≡ rows.texture
  pub u : row.u ≡ rows.u
  pub flip : row.flip ≡ rows.flip
