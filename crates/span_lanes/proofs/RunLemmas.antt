-- The rows of a triangle in a box.
use Rattle.std.proofs.Common.{◌≡◌, ℕ, ◌+◌, List, ap, refl, sym, subst, arith}
use Rattle.std.proofs.lemmas.Int.{ints}
use Rattle.px_num.specs.declared.shape.Box2.{Box2}
use Rattle.edge_walk.specs.Triangle.{Corners}
use Rattle.vram_store.specs.Vram.{height_of}
use Rattle.span_lanes.specs.Cells.{Stage}
use Rattle.span_lanes.specs.Draws.{CanDraw}
use Rattle.span_lanes.specs.ClipRect.{IsClipRect}
use Rattle.span_lanes.specs.Figures.ClippedTriangle.{CanDrawClipped, IsClipped}
use Rattle.span_lanes.specs.declared.figures.triangle.ClippedTriangle.{ClippedTriangle}
use Rattle.span_lanes.specs.declared.span.ClipRect.{ClipRect}
use Rattle.span_lanes.specs.Figures.Triangles.{paint_with, state_with, texture_with}
use Rattle.span_lanes.specs.Figures.Triangles.{CanDrawTriangle, IsRun, row_inside, AreRowsIn, StandAt}
use Rattle.span_lanes.specs.Figures.Boxes.{IsOnScreen, clip_rect_of}
use Rattle.span_lanes.specs.PaintSetup.{HasSetup}
use Rattle.span_lanes.specs.Pattern.{LiesInClip, Pattern, run_span, uniform}
use Rattle.span_lanes.specs.Figures.Rows.{DrawsRows, PaintsAs}
use Rattle.span_lanes.specs.Shade.{AreInside, HasInside, paint_pixel, texture_of}
use Rattle.span_lanes.specs.declared.span.Brush.{Brush}
use Rattle.span_lanes.specs.declared.figures.triangle.TrianglePaint.{TrianglePaint}
use Rattle.span_lanes.specs.declared.figures.triangle.TrianglePaint.TheVariants.{OneColor, Gouraud, Textured}
use Rattle.span_lanes.specs.declared.figures.triangle.TriangleState.{TriangleState}
use Rattle.span_lanes.specs.declared.figures.triangle.TriangleRows.{TriangleRows}
use Rattle.span_lanes.specs.declared.span.Run.{Run}
use Rattle.span_lanes.proofs.WalkLemmas.{box_is}

-- cells inside a triangle are inside the triangle of their paint
inside : (t : Corners) (paint : TrianglePaint) (x y n : ℕ) → AreInside t x y n → HasInside (paint_with paint t) x y n
inside t (OneColor color) x y n is = tt
inside t Gouraud x y n is = is
inside t (Textured texture) x y n is = is

-- the pixel of a cell does not depend on its number in the row
alike : (t : Corners) (paint : TrianglePaint) (brush : Brush) (x y i : ℕ) (m : List ℕ)
    → paint_pixel (paint_with paint t) brush x y i m ≡ paint_pixel (paint_with paint t) brush x y 0 m
alike t (OneColor color) brush x y i m = refl
alike t Gouraud brush x y i m = refl
alike t (Textured texture) brush x y i m = refl

texture_is : (t : Corners) (paint : TrianglePaint) → texture_of (paint_with paint t) ≡ texture_with paint
texture_is t (OneColor color) = refl
texture_is t Gouraud = refl
texture_is t (Textured texture) = refl

-- the paint of a triangle's cells is no row of texels
pub has_setup : (t : Corners) (paint : TrianglePaint) → HasSetup (paint_with paint t)
has_setup t (OneColor color) = tt
has_setup t Gouraud = tt
has_setup t (Textured texture) = tt

-- the box of a triangle that can be drawn
pub is_clipped : (height : ℕ) (triangle : ClippedTriangle) → CanDrawClipped height triangle → IsClipped triangle
is_clipped height triangle can = record {
  small = can.can.small;
  inside = can.can.inside;
  clip_rect = can.clip_rect;
}

-- a box of video memory as a clip rectangle
pub clip_rect_is : (clip : Box2) (b : ClipRect) → b ≡ clip_rect_of clip → IsOnScreen 1024 clip → IsClipRect 1024 b
clip_rect_is clip b is small =
    let box = box_is clip small in
    subst (IsClipRect 1024) (sym is)
    (record {
      columns = box.some;
      rows = box.rows;
      right = box.in_row;
      bottom = omega (arith, ints, box.bottom, box.rows, small.bottom);
    })

module _ (t : Corners) (clip : Box2) (rows : TriangleRows) (are : AreRowsIn t clip rows) where
  pub tri_block : IsOnScreen 1024 clip → IsClipRect 1024 rows.clip_rect
  tri_block small = clip_rect_is clip rows.clip_rect are.clip_rect small

  pub tri_stands : StandAt rows rows.clip_rect.y
  tri_stands = subst (λ (b : ClipRect). StandAt rows b.y) (sym are.clip_rect) are.stand

  -- a run of it can be drawn
  pub tri_can_draw : (state : TriangleState) (y : ℕ) (run : Run) (m : List ℕ)
      → CanDrawTriangle (height_of m) state t clip → IsRun rows.tri.now y run × LiesInClip rows.clip_rect y run
      → CanDraw (run_span (uniform (state_with state t)) y run) m
  tri_can_draw state y run m can gives =
      let box = box_is clip can.small in
      let is : IsRun t y run = subst (λ (k : Corners). IsRun k y run) are.tri gives.0 in
      let lies : LiesInClip (clip_rect_of clip) y run =
      subst (λ (b : ClipRect). LiesInClip b y run) are.clip_rect gives.1 in
      record {
        span = record {
          some = is.some;
          in_row = is.in_row;
          brush = can.is.brush;
          texture = rw (texture_is t state.paint) can.is.texture;
          inside = inside t state.paint run.x y run.n is.inside;
        };
        lies = record {
          row = omega (arith, ints, lies.bottom, box.bottom, box.rows, can.in_height.bottom);
          page = rw (texture_is t state.paint) can.is.page;
        };
      }

  -- with its own pixels
  pub tri_paints : (state : TriangleState) (own : Pattern) (y : ℕ) (run : Run) → own ≡ uniform (state_with state t)
      → IsRun rows.tri.now y run × LiesInClip rows.clip_rect y run
      → PaintsAs (uniform (state_with state t)) own y run
  tri_paints state own y run is gives = record {
    some = gives.0.some;
    span = ap (λ (p : Pattern). run_span p y run) is;
    alike = λ i lt m. alike t state.paint state.brush (run.x + i) y i m;
  }

  pub tri_drawn : (p : Pattern) (before after : Stage)
      → DrawsRows (record { pattern = p; row = row_inside rows.tri.now rows.clip_rect; top = rows.clip_rect.y })
      rows.clip_rect.h before after
      → DrawsRows (record { pattern = p; row = row_inside t (clip_rect_of clip); top = (clip_rect_of clip).y })
      (clip_rect_of clip).h before after
  tri_drawn p before after drawn =
      subst (λ (b : ClipRect). DrawsRows (record { pattern = p; row = row_inside t b; top = b.y }) b.h before after)
      are.clip_rect
      (subst (λ (k : Corners). DrawsRows
      (record { pattern = p; row = row_inside k rows.clip_rect; top = rows.clip_rect.y })
      rows.clip_rect.h before after) are.tri drawn)
