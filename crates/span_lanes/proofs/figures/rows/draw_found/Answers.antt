use Rattle.span_lanes.proofs.RowLemmas.{run_drawn}
use Rattle.span_lanes.proofs.figures.rows.draw_found.Goals as goal

pub returns-in-Some-clause-drawn : goal.returns-in-Some-clause-drawn
returns-in-Some-clause-drawn g c p paints =
    rw c.in-Some.is
    (run_drawn p _ c.args.y c.in-Some.run' _ _ (rw c.in-Some.is at paints) c.draw.ensures.drawn)
