-- When a chunk of a span reads a cell that it writes (our own rule: every pixel reads video memory as it is when that
-- pixel is drawn).
use Rattle.std.specs.Prelude.{ℕ, ◌≡◌, ◌≢◌, ◌<◌, ◌≤◌, ◌⊎◌, ◌+◌, ◌*◌, ◌%◌, ◌==◌, Bool, false, List, Option, None, Some}
use Rattle.std.specs.Prelude.{IfSome, if◌then◌else◌, map, slice_index}
use Rattle.std.specs.Option.{MatchOption}
use Rattle.std.specs.List.{range_with_len}
use Rattle.px_num.specs.declared.shape.Cell.{Cell}
use Rattle.px_num.specs.declared.shape.Strip.{Strip}
use Rattle.texture_page.specs.Page.{texel_place}
use Rattle.overlap_guard.specs.Hazard.{HasTextureHazard, has_texture_hazard}
use Rattle.texel_lanes.specs.declared.texture.Texture.{Texture}
use Rattle.texel_lanes.specs.Texture.{clut_row}
use Rattle.span_lanes.specs.declared.span.Paint.{Paint}
use Rattle.span_lanes.specs.declared.span.Span.{Span}
use Rattle.span_lanes.specs.Shade.{texture_of}
use Rattle.span_lanes.specs.Paints.{paint_u, paint_v}

-- the cell of the texel of cell i of a row that begins at (x, y)
abbrev pub paint_texel : Paint → Texture → ℕ → ℕ → ℕ → Cell
paint_texel paint t x y i = texel_place t.page t.window (paint_u paint (x + i) y i) (paint_v paint (x + i) y i)

-- the texel cells of n cells of the row, from cell `first` on
unfoldable pub paint_texels : Paint → Texture → ℕ → ℕ → ℕ → ℕ → List Cell
paint_texels paint t x y first n = map (paint_texel paint t x y) (range_with_len first n)

-- the cells of the first n entries of a CLUT (psx-spx, "GPU Rendering Attributes": clut attribute)
abbrev pub clut_strip : ℕ → ℕ → Strip
clut_strip clut n = record { x = clut % 64 * 16; y = clut_row clut; n = n }

-- the CLUT that a texture reads: sixteen entries at depth 0, 256 at depth 1
abbrev pub clut_of : Texture → Option Strip
clut_of t =
    if t.page.depth == 0 then Some (clut_strip t.clut 16)
    else (if t.page.depth == 1 then Some (clut_strip t.clut 256)
    else None)

-- the first cell that a chunk writes
abbrev pub target : ℕ → ℕ → ℕ → Cell
target x y first = record { x = x + first; y = y }

-- n cells of a row that begins at (x, y), from cell `first` on, have a hazard: one reads as its texel a cell that an
-- earlier one writes, or one writes a cell of the CLUT
abbrev pub PaintHazard : Paint → ℕ → ℕ → ℕ → ℕ → Type 0
PaintHazard paint x y first n =
    MatchOption (texture_of paint) ⊥
    (λ t. HasTextureHazard (paint_texels paint t x y first n) (clut_of t) (target x y first) n)

-- n cells of a span, from cell `first` on, have a hazard
abbrev pub HasHazard : Span → ℕ → ℕ → Type 0
HasHazard span first n = PaintHazard span.paint span.x span.y first n

-- ---- hazards as computable tests

abbrev pub has_paint_hazard : Option Texture → Paint → ℕ → ℕ → ℕ → ℕ → Bool
has_paint_hazard None paint x y first n = false
has_paint_hazard (Some t) paint x y first n =
    has_texture_hazard (paint_texels paint t x y first n) (clut_of t) (target x y first) n

unfoldable pub has_hazard : Span → ℕ → ℕ → Bool
has_hazard span first n = has_paint_hazard (texture_of span.paint) span.paint span.x span.y first n

-- ---- for coordinates that are already computed

-- the cells of n texels, from their coordinates
unfoldable pub texel_cells : Texture → List ℕ → List ℕ → ℕ → List Cell
texel_cells t us vs n =
    map (λ j. texel_place t.page t.window (slice_index us j) (slice_index vs j)) (range_with_len 0 n)

-- ---- spans without a hazard

-- the width of a page in cells
abbrev pub page_width : ℕ → ℕ
page_width depth =
    if depth == 0 then 64
    else (if depth == 1 then 128
    else 256)

-- n columns of a row from x on are none of the `width` columns from `first` on, which wrap at 1024 (our own rule)
abbrev pub LiesOutsideColumns : (first width x n : ℕ) → Type 0
LiesOutsideColumns first width x n = (first + width ≤ x) ⊎ ((x + n ≤ first) × (first + width ≤ x + 1024))

-- n cells of a row from (x, y) on are above or below the rows of a texture's page, or in none of its columns
abbrev pub LiesOutsidePage : Texture → ℕ → ℕ → ℕ → Type 0
LiesOutsidePage t x y n =
    ((y < t.page.y) ⊎ (t.page.y + 255 < y)) ⊎ LiesOutsideColumns t.page.x (page_width t.page.depth) x n

-- n cells of a row from (x, y) on are in another row than a strip, or in none of its columns
abbrev pub LiesOutsideStrip : Strip → ℕ → ℕ → ℕ → Type 0
LiesOutsideStrip strip x y n = (strip.y ≢ y) ⊎ LiesOutsideColumns strip.x strip.n x n

-- n cells of a row from (x, y) on are none of a texture's CLUT, if it has one
abbrev pub LiesOutsideClut : Texture → ℕ → ℕ → ℕ → Type 0
LiesOutsideClut t x y n = IfSome (clut_of t) (λ strip. LiesOutsideStrip strip x y n)

-- no chunk of a span has a hazard; a chunk is up to sixteen cells, the number of the first a multiple of sixteen
pub record IsHazardFree (span : Span) : Type 0 where
  pub free : (first n : ℕ) → first % 16 ≡ 0 → n ≤ 16 → first + n ≤ span.n → HasHazard span first n → ⊥
