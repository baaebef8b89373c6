-- The pixel that a span draws at one of its cells (psx-spx, "GPU Rendering Attributes"; the exact integers are our
-- own rule).
use Rattle.std.specs.Prelude.{ℕ, ◌+◌, ◌-◌, ◌*◌, ◌%◌, ◌<◌, ◌≤◌, ◌==◌, ◌&&◌, ℤ, pos, IsTrue, Bool, false, not, List}
use Rattle.std.specs.Prelude.{Option, None, Some, IfSome, if◌then◌else◌}
use Rattle.px_num.specs.declared.shape.Cell.{Cell}
use Rattle.vram_store.specs.Vram.{at, bit}
use Rattle.vram_store.specs.Plot.{drawn_lanes}
use Rattle.blend_dither.specs.Color.{dither_offset, tone_of, red_of, green_of, blue_of, modulated_of, blended_of}
use Rattle.blend_dither.specs.Color.{packed_pixel}
use Rattle.edge_walk.specs.Triangle.{Corners, is_inside}
use Rattle.edge_walk.specs.Attribute.{attribute_at}
use Rattle.span_lanes.specs.declared.span.Brush.{Brush}
use Rattle.texel_lanes.specs.declared.texture.Texture.{Texture}
use Rattle.texel_lanes.specs.Texture.{HasPage, IsTexture, texel}
use Rattle.span_lanes.specs.declared.span.Paint.{Paint}
use Rattle.span_lanes.specs.declared.span.Paint.TheVariants.{Flat, Shaded, TexturedTri, TexturedRow}
use Rattle.span_lanes.specs.declared.span.Span.{Span}

-- ---- spans that can be drawn

-- the texture of a paint
abbrev pub texture_of : Paint → Option Texture
texture_of (Flat color) = None
texture_of (Shaded tri) = None
texture_of (TexturedTri tri texture) = Some texture
texture_of (TexturedRow color texture u v flip) = Some texture

-- n cells of a row from (x, y) on are inside a triangle
abbrev pub AreInside : Corners → ℕ → ℕ → ℕ → Type 0
AreInside tri x y n = (i : ℕ) → i < n → IsTrue (is_inside tri (pos (x + i)) (pos y))

-- the cells are inside the paint's triangle, if it has one
abbrev pub HasInside : Paint → ℕ → ℕ → ℕ → Type 0
HasInside (Flat color) x y n = Unit {0}
HasInside (Shaded tri) x y n = AreInside tri x y n
HasInside (TexturedTri tri texture) x y n = AreInside tri x y n
HasInside (TexturedRow color texture u v flip) x y n = Unit {0}

-- settings that are valid
pub record IsBrush (brush : Brush) : Type 0 where
  pub mask : brush.mask ≤ 3
  pub mode : brush.mode ≤ 3

-- one or more cells of one row of 1024, with a valid paint and brush
pub record IsSpan (span : Span) : Type 0 where
  pub some : 1 ≤ span.n
  pub in_row : span.x + span.n ≤ 1024
  pub brush : IsBrush span.brush
  pub texture : IfSome (texture_of span.paint) IsTexture
  pub inside : HasInside span.paint span.x span.y span.n

-- the row of a span and all rows of its texture page are in video memory of this height
pub record LiesIn (height : ℕ) (span : Span) : Type 0 where
  pub row : span.y < height
  pub page : IfSome (texture_of span.paint) (HasPage height)

-- ---- texels

-- the column U of the texel of cell i of a row: it increases by 1 from cell to cell, or decreases by 1 if flipped
unfoldable pub row_u : ℕ → Bool → ℕ → ℕ
row_u u flip i = if flip then (u + 1024 - i) % 256 else (u + i) % 256

-- ---- colours

-- the dither offset at a cell, 0 without dither
unfoldable pub dither_of : Bool → ℕ → ℕ → ℤ
dither_of dither x y = if dither then dither_offset x y else pos 0

-- the 15-bit colour `front` over a cell, blended if it is semi-transparent
unfoldable pub blended_if : Bool → ℕ → ℕ → ℕ → ℕ
blended_if semi mode back front = if semi then blended_of mode back front else front

-- the pixel of a 24-bit colour without a texture
unfoldable pub flat_pixel : Brush → ℕ → ℤ → ℕ → Option ℕ
flat_pixel brush color shift back =
    let front = tone_of (red_of color) (green_of color) (blue_of color) shift in
    Some (packed_pixel (blended_if brush.semi brush.mode back front) false false)

-- bit 15 of a texel
abbrev pub is_high : ℕ → Bool
is_high t = bit t 15 == 1

-- a texel modulated by a colour, or unchanged if raw
unfoldable pub modulated_texel : Bool → ℕ → ℤ → ℕ → ℕ
modulated_texel raw color shift t =
    if raw then t else modulated_of t (red_of color) (green_of color) (blue_of color) shift

-- the pixel of a texel: none for 0000h; bit 15 decides whether the texel may be semi-transparent, and is kept
unfoldable pub textured_pixel : Brush → Bool → ℕ → ℤ → ℕ → ℕ → Option ℕ
textured_pixel brush raw color shift back t =
    if t == 0 then None
    else Some (packed_pixel
    (blended_if (brush.semi && is_high t) brush.mode back (modulated_texel raw color shift t)) (is_high t) false)

-- red, green, blue, u or v of a triangle at a cell
abbrev pub attribute_in : Corners → ℕ → ℕ → ℕ → ℕ
attribute_in tri which x y = attribute_at tri which (pos x) (pos y)

-- the colour of a triangle at a cell
unfoldable pub color_in : Corners → ℕ → ℕ → ℕ
color_in tri x y = attribute_in tri 0 x y + 256 * attribute_in tri 1 x y + 65536 * attribute_in tri 2 x y

-- ---- the pixel

-- the pixel, if any, of cell i of a row, which is at (x, y)
abbrev pub paint_pixel : Paint → Brush → ℕ → ℕ → ℕ → List ℕ → Option ℕ
paint_pixel (Flat color) brush x y i m = flat_pixel brush color (dither_of brush.dither x y) (at m x y)
paint_pixel (Shaded tri) brush x y i m = flat_pixel brush (color_in tri x y) (dither_of brush.dither x y) (at m x y)
paint_pixel (TexturedTri tri texture) brush x y i m =
    textured_pixel brush texture.raw (color_in tri x y) (dither_of (brush.dither && not texture.raw) x y) (at m x y)
    (texel texture (attribute_in tri 3 x y) (attribute_in tri 4 x y) m)
paint_pixel (TexturedRow color texture u v flip) brush x y i m =
    textured_pixel brush texture.raw color (dither_of (brush.dither && not texture.raw) x y) (at m x y)
    (texel texture (row_u u flip i) v m)

-- the pixel of cell i of a span
unfoldable pub shade : Span → ℕ → List ℕ → Option ℕ
shade span i m = paint_pixel span.paint span.brush (span.x + i) span.y i m

-- the pixel of a span at a cell of its row
abbrev pub shade_at : Span → Cell → List ℕ → Option ℕ
shade_at span cell m = shade span (cell.x - span.x) m

-- the first n cells of a span, drawn one after another from left to right, by cell number
abbrev pub drawn_span : Span → ℕ → List ℕ → List ℕ
drawn_span span n m = drawn_lanes (shade span) span.brush.mask (1024 * span.y + span.x) n m
