-- The rows of a clip rectangle.
use Rattle.std.proofs.Common.{◌≡◌, ℕ, List, ap, refl, subst, arith}
use Rattle.vram_store.specs.Vram.{height_of}
use Rattle.span_lanes.specs.Cells.{Stage}
use Rattle.span_lanes.specs.Draws.{CanDraw}
use Rattle.span_lanes.specs.Pattern.{Pattern, run_span, uniform}
use Rattle.span_lanes.specs.Figures.Rectangles.{CanDrawFlat, CanDrawTexelRows, DrawsTexelRows, PaintsTexels, whole_run}
use Rattle.span_lanes.specs.Figures.Rows.{PaintsAs}
use Rattle.span_lanes.specs.Figures.SolidColor.{flat_state}
use Rattle.span_lanes.specs.TexelRows.{IsWholeRow, rows_pattern}
use Rattle.span_lanes.specs.declared.rows.texel_rows.TexelRows.{TexelRows}
use Rattle.span_lanes.specs.declared.span.Brush.{Brush}
use Rattle.span_lanes.specs.declared.span.ClipRect.{ClipRect}
use Rattle.span_lanes.specs.declared.span.Run.{Run}

-- a row of one colour can be drawn
pub flat_can_draw : (color : ℕ) (brush : Brush) (b : ClipRect) (m : List ℕ) (y : ℕ) (run : Run)
    → CanDrawFlat (height_of m) brush b → IsWholeRow b y run
    → CanDraw (run_span (uniform (flat_state color brush)) y run) m
flat_can_draw color brush b m y run can whole = record {
  span = record {
    some = omega (arith, whole.count, can.small.columns);
    in_row = omega (arith, whole.first, whole.count, can.small.right);
    brush = can.is;
    texture = tt;
    inside = tt;
  };
  lies = record { row = omega (arith, whole.bottom, can.in_height.bottom); page = tt };
}

-- with its own pixels
pub flat_paints : (color : ℕ) (brush : Brush) (b : ClipRect) (height : ℕ) (own : Pattern) (y : ℕ) (run : Run)
    → CanDrawFlat height brush b → IsWholeRow b y run → own ≡ uniform (flat_state color brush)
    → PaintsAs (uniform (flat_state color brush)) own y run
flat_paints color brush b height own y run can whole is = record {
  some = omega (arith, whole.count, can.small.columns);
  span = ap (λ (p : Pattern). run_span p y run) is;
  alike = λ i lt m. refl;
}

-- a row of texels can be drawn
pub texels_can_draw : (rows : TexelRows) (m : List ℕ) (y : ℕ) (run : Run) → CanDrawTexelRows (height_of m) rows
    → IsWholeRow rows.clip_rect y run → CanDraw (run_span (rows_pattern rows) y run) m
texels_can_draw rows m y run can whole = record {
  span = record {
    some = omega (arith, whole.count, can.small.columns);
    in_row = omega (arith, whole.first, whole.count, can.small.right);
    brush = can.is;
    texture = can.texture;
    inside = tt;
  };
  lies = record { row = omega (arith, whole.bottom, can.in_height.bottom); page = can.page };
}

-- rows that equal those that were drawn
pub same_rows : (own rows : TexelRows) (before after : Stage) → own ≡ rows → DrawsTexelRows own before after
    → DrawsTexelRows rows before after
same_rows own rows before after is drawn = subst (λ (r : TexelRows). DrawsTexelRows r before after) is drawn

-- a whole row
pub whole_is : (b : ClipRect) (y : ℕ) (run : Run) → IsWholeRow b y run → whole_run b ≡ run
whole_is b y run whole = rw (← whole.first, ← whole.count) refl

-- a pattern with the pixels of texels has those of each row
pub texels_paint : (p : Pattern) (rows : TexelRows) (y : ℕ) (run : Run) → PaintsTexels p rows
    → IsWholeRow rows.clip_rect y run → PaintsAs p (rows_pattern rows) y run
texels_paint p rows y run paints whole =
    subst (λ (r : Run). PaintsAs p (rows_pattern rows) y r) (whole_is rows.clip_rect y run whole)
    (paints y whole.top whole.bottom)
