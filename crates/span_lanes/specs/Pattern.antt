-- Paint and brush of the cells of a primitive.
use Rattle.std.specs.Prelude.{ℕ, List, Option}
use Rattle.px_num.specs.declared.shape.Cell.{Cell}
use Rattle.span_lanes.specs.Cells.{drawn_cells}
use Rattle.span_lanes.specs.ClipRect.{IsInClip}
use Rattle.span_lanes.specs.Shade.{paint_pixel}
use Rattle.span_lanes.specs.declared.span.Brush.{Brush}
use Rattle.span_lanes.specs.declared.span.Paint.{Paint}
use Rattle.span_lanes.specs.declared.span.Span.{Span}
use Rattle.span_lanes.specs.declared.span.ClipRect.{ClipRect}
use Rattle.span_lanes.specs.declared.span.DrawState.{DrawState}
use Rattle.span_lanes.specs.declared.span.Run.{Run}

-- the paint of the cells of a row, as a function of the first of them, and their brush
pub record Pattern : Type 0 where
  pub paint : Cell → Paint
  pub brush : Brush

-- one paint for all cells
abbrev pub uniform : DrawState → Pattern
uniform state = record { paint = λ cell. state.paint; brush = state.brush }

-- the pixel, if any, that a primitive draws at a cell, computed from video memory as it is when the cell is drawn
abbrev pub pixel_at : Pattern → Cell → List ℕ → Option ℕ
pixel_at p cell m = paint_pixel (p.paint cell) p.brush cell.x cell.y 0 m

-- cells drawn with a pattern one after another
abbrev pub painted_cells : Pattern → List Cell → List ℕ → List ℕ
painted_cells p cells m = drawn_cells (pixel_at p) p.brush.mask cells m

-- the span of n cells of a row, from the first to the right
abbrev pub span_from : Pattern → Cell → (n : ℕ) → Span
span_from p first n = record { x = first.x; y = first.y; n = n; paint = p.paint first; brush = p.brush }

-- the span of a run of row y
abbrev pub run_span : Pattern → ℕ → Run → Span
run_span p y run = span_from p (record { x = run.x; y = y }) run.n

-- cells of row y that lie in a clip rectangle
abbrev pub LiesInClip : ClipRect → ℕ → Run → Type 0
LiesInClip b y run = IsInClip b run.x y run.n
