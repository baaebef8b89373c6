-- Rows of cells, drawn one after another.
use Rattle.std.specs.Prelude.{ℕ, zero, suc, ◌+◌, ◌<◌, ◌≤◌, ◌≡◌, List, [], ◌∷◌, ◌++◌, Option, None, Some, length}
use Rattle.px_num.specs.declared.shape.Cell.{Cell}
use Rattle.span_lanes.specs.Cells.{Stage, row_cells}
use Rattle.span_lanes.specs.Cost.{span_cost}
use Rattle.span_lanes.specs.Pattern.{Pattern, painted_cells, run_span, span_from}
use Rattle.span_lanes.specs.Shade.{paint_pixel}
use Rattle.span_lanes.specs.declared.span.Run.{Run}

-- the cells of a run of row y, or of none
abbrev pub run_cells : Option Run → (y : ℕ) → List Cell
run_cells None y = []
run_cells (Some run) y = row_cells run.x y run.n

-- the cells of `count` rows, from row `top` on
abbrev pub cells_down : (row : ℕ → List Cell) → (top count : ℕ) → List Cell
cells_down row top zero = []
cells_down row top (suc count) = cells_down row top count ++ row (top + count)

-- the cost of the drawn cells of a row, which are consecutive, as one span
abbrev pub side_by_side : Pattern → List Cell → ℕ
side_by_side p [] = 0
side_by_side p (cell ∷ cells) = span_cost (span_from p cell (length (cell ∷ cells)))

-- the cost of `count` rows, from row `top` on
abbrev pub cost_down : Pattern → (row : ℕ → List Cell) → (top count : ℕ) → ℕ
cost_down p row top zero = 0
cost_down p row top (suc count) = cost_down p row top count + side_by_side p (row (top + count))

-- a run that is drawn with one pattern has the pixels of another: the span is the same, and the paint of its first cell
-- gives the pixel of each
pub record PaintsAs (p own : Pattern) (y : ℕ) (run : Run) : Type 0 where
  pub some : 1 ≤ run.n
  pub span : run_span own y run ≡ run_span p y run
  pub alike : (i : ℕ) → i < run.n → (m : List ℕ)
      → paint_pixel (run_span p y run).paint p.brush (run.x + i) y i m
      ≡ paint_pixel (p.paint (record { x = run.x + i; y = y })) p.brush (run.x + i) y 0 m

-- ---- what was drawn; stages are video memory and the number of steps before and after

-- a run of row y was drawn, if there is one
pub record DrawsRun (p : Pattern) (y : ℕ) (found : Option Run) (before after : Stage) : Type 0 where
  pub cells : after.m ≡ painted_cells p (run_cells found y) before.m
  pub long : length after.m ≡ length before.m
  pub cost : after.steps ≤ before.steps + side_by_side p (run_cells found y)

-- a figure: the cells of each row from the top one on, and their pattern
pub record Figure : Type 0 where
  pub pattern : Pattern
  pub row : ℕ → List Cell
  pub top : ℕ

-- the first `count` rows of a figure were drawn
pub record DrawsRows (f : Figure) (count : ℕ) (before after : Stage) : Type 0 where
  pub cells : after.m ≡ painted_cells f.pattern (cells_down f.row f.top count) before.m
  pub long : length after.m ≡ length before.m
  pub cost : after.steps ≤ before.steps + cost_down f.pattern f.row f.top count
