use Rattle.std.proofs.Common.{ℕ, ◌≡◌, ◌+◌, length}
use Rattle.span_lanes.specs.Pattern.{Pattern}
use Rattle.span_lanes.specs.Figures.Rows.{DrawsRows, PaintsAs}
use Rattle.span_lanes.specs.declared.span.Run.{Run}
use Rattle.span_lanes.proofs.figures.rows.draw_rows.Given as goal

abbrev pub invariant-loop-j : goal.invariant-loop-j
invariant-loop-j g l = record {
  drawn : (p : Pattern)
      → ((y : ℕ) (run : Run) → g.R.Rows.gives l.initial.rows y run
      → PaintsAs p (g.P.RowDrawer.pattern l.initial.drawer) y run)
      → DrawsRows
      (record { pattern = p; row = g.R.Rows.cells l.initial.rows; top = (g.R.Rows.within l.initial.rows).y }) l.j
      (record { m = l.initial.vram; steps = l.initial.steps }) (record { m = l.vram; steps = l.steps });
  long : length l.vram ≡ length l.initial.vram;
  stands : g.R.Rows.stands l.rows ((g.R.Rows.within l.initial.rows).y + l.j);
  within : g.R.Rows.within l.rows ≡ g.R.Rows.within l.initial.rows;
  cells : g.R.Rows.cells l.rows ≡ g.R.Rows.cells l.initial.rows;
  gives : (y : ℕ) (run : Run) → g.R.Rows.gives l.rows y run → g.R.Rows.gives l.initial.rows y run;
  pattern : g.P.RowDrawer.pattern l.drawer ≡ g.P.RowDrawer.pattern l.initial.drawer;
  reaches : (y : ℕ) (run : Run) → g.P.RowDrawer.reaches l.initial.drawer y run → g.P.RowDrawer.reaches l.drawer y run;
  fresh : g.P.RowDrawer.fresh l.drawer l.vram;
}
