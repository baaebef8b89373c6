-- Rows of a rectangle.
use Rattle.std.proofs.Common.{◌≡◌, ◌<◌, ◌≤◌, ℕ, ◌+◌, ◌-◌, pos, ◌-ℤ◌, unsigned_abs, List, Option, None, Some, Bool}
use Rattle.std.proofs.Common.{true, false}
use Rattle.std.proofs.Common.{IfSome, refl, ap, ◌∙◌, subst, arith}
use Rattle.std.proofs.lemmas.Int.{ints}
use Rattle.span_lanes.specs.Figures.Rectangles.{CanDrawFlat, CanDrawTexelRows, PaintsTexels, whole_run}
use Rattle.texel_lanes.specs.Texture.{HasPage, IsTexture}
use Rattle.span_lanes.specs.Pattern.{run_span, uniform}
use Rattle.span_lanes.specs.TexelRows.{rows_pattern, texel_row}
use Rattle.span_lanes.specs.Shade.{paint_pixel, row_u}
use Rattle.span_lanes.specs.declared.span.Brush.{Brush}
use Rattle.span_lanes.specs.declared.span.Paint.TheVariants.{Flat}
use Rattle.texel_lanes.specs.declared.texture.Texture.{Texture}
use Rattle.prim_draw.specs.Rectangles.{paint_from, rectangle_paint, IsPartOf}
use Rattle.span_lanes.specs.Figures.Rows.{PaintsAs}
use Rattle.prim_draw.specs.ClippedRectangle.{CanDrawRectangle, texels_of, rectangle_pattern}
use Rattle.prim_draw.specs.declared.rectangles.RectangleSetup.{RectangleSetup}
use Rattle.prim_draw.specs.declared.rectangles.ClippedRectangle.{ClippedRectangle}

-- the column of a texel, counted in two steps along a row
row_u-more : (u : ℕ) (flip : Bool) (a i : ℕ) → a + i ≤ 1023 → row_u (row_u u flip a) flip i
    ≡ row_u (row_u u flip (a + i)) flip 0
unfolding row_u
row_u-more u true a i le = omega arith
row_u-more u false a i le = omega arith

along : (rectangle_setup : RectangleSetup) (texture : Option Texture) (brush : Brush) (a row i x y : ℕ) (m : List ℕ)
    → a + i ≤ 1023
    → paint_pixel (paint_from rectangle_setup texture a row) brush x y i m
    ≡ paint_pixel (paint_from rectangle_setup texture (a + i) row) brush x y 0 m
along rectangle_setup None brush a row i x y m le = refl
along rectangle_setup (Some texture) brush a row i x y m le =
    rw (row_u-more rectangle_setup.u rectangle_setup.flip_x a i le) refl

-- the row of a texel, counted in two steps down
row_further : (v : ℕ) (falls : Bool) (rows j : ℕ) → rows + j ≤ 1023
    → row_u (row_u v falls rows) falls j ≡ row_u v falls (rows + j)
unfolding row_u
row_further v true rows j le = omega arith
row_further v false rows j le = omega arith

-- without a texture the pattern is one colour
pub flat_pattern : (rectangle : ClippedRectangle) → rectangle.rectangle_setup.now.texture ≡ None
    → rectangle_pattern rectangle
    ≡ uniform (record { paint = Flat rectangle.rectangle_setup.now.color; brush = rectangle.rectangle_setup.now.brush })
unfolding rectangle_paint
flat_pattern rectangle none = rw none refl

-- a rectangle without a texture can be drawn
pub can_draw_flat : (height : ℕ) (rectangle : ClippedRectangle) → CanDrawRectangle height rectangle
    → CanDrawFlat height rectangle.rectangle_setup.now.brush rectangle.clip_rect.now
can_draw_flat height rectangle can = record {
  is = can.rectangle_setup.brush;
  small = can.small;
  in_height = can.clip_rect;
}

-- so can its texels
pub can_draw_texels : (height : ℕ) (rectangle : ClippedRectangle) (t : Texture) → CanDrawRectangle height rectangle
    → rectangle.rectangle_setup.now.texture ≡ Some t → CanDrawTexelRows height (texels_of rectangle t)
can_draw_texels height rectangle t can is = record {
  is = can.rectangle_setup.brush;
  texture = subst (λ (texture : Option Texture). IfSome texture IsTexture) is can.rectangle_setup.texture;
  page = subst (λ (texture : Option Texture). IfSome texture (HasPage height)) is can.rectangle_setup.page;
  small = can.small;
  in_height = can.clip_rect;
}

module _ (rectangle : ClippedRectangle) (y : ℕ) (top : rectangle.clip_rect.now.y ≤ y)
    (bottom : y < rectangle.clip_rect.now.y + rectangle.clip_rect.now.h) where
  -- the texels of a row are those of the rectangle
  row_at : (t : Texture) → IsPartOf rectangle.extent.now rectangle.clip_rect.now → texel_row (texels_of rectangle t) y
      ≡ row_u rectangle.rectangle_setup.now.v rectangle.rectangle_setup.now.flip_y
      (unsigned_abs (pos y -ℤ rectangle.extent.now.top))
  row_at t part =
      let b = rectangle.clip_rect.now in
      let above = rectangle.extent.now.top in
      let setup = rectangle.rectangle_setup.now in
      let before : ℕ = unsigned_abs (pos b.y -ℤ above) in
      let near : before + (y - b.y) ≤ 1023 = omega (arith, ints, part.top, part.bottom, top, bottom) in
      let row : before + (y - b.y) ≡ unsigned_abs (pos y -ℤ above) = omega (arith, ints, part.top, top) in
      row_further setup.v setup.flip_y before (y - b.y) near ∙ ap (row_u setup.v setup.flip_y) row

  same_span : (t : Texture) → rectangle.rectangle_setup.now.texture ≡ Some t
      → IsPartOf rectangle.extent.now rectangle.clip_rect.now
      → run_span (rows_pattern (texels_of rectangle t)) y (whole_run rectangle.clip_rect.now)
      ≡ run_span (rectangle_pattern rectangle) y (whole_run rectangle.clip_rect.now)
  unfolding rectangle_paint
  same_span t texture part = rw (texture, row_at t part) refl

  paints_row : (height : ℕ) (t : Texture) → CanDrawRectangle height rectangle
      → rectangle.rectangle_setup.now.texture ≡ Some t
      → PaintsAs (rectangle_pattern rectangle) (rows_pattern (texels_of rectangle t)) y
      (whole_run rectangle.clip_rect.now)
  unfolding rectangle_paint
  paints_row height t can texture =
      let b = rectangle.clip_rect.now in
      let setup = rectangle.rectangle_setup.now in
      let left = rectangle.extent.now.left in
      let column : ℕ = unsigned_abs (pos b.x -ℤ left) in
      let row : ℕ = unsigned_abs (pos y -ℤ rectangle.extent.now.top) in
      record {
        some = can.small.columns;
        span = same_span t texture can.part;
        alike = λ i lt m.
            let on : unsigned_abs (pos (b.x + i) -ℤ left) ≡ column + i = omega (arith, ints, can.part.left) in
            let near : column + i ≤ 1023 = omega (arith, ints, can.part.left, can.part.right, lt) in
            rw on (along setup setup.texture setup.brush column row i (b.x + i) y m near);
      }

-- the pattern of a rectangle has the pixels of its texels
pub texels_are : (height : ℕ) (rectangle : ClippedRectangle) (t : Texture) → CanDrawRectangle height rectangle
    → rectangle.rectangle_setup.now.texture ≡ Some t
    → PaintsTexels (rectangle_pattern rectangle) (texels_of rectangle t)
texels_are height rectangle t can is y top bottom = paints_row rectangle y top bottom height t can is
