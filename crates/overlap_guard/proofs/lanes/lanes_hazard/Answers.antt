use Rattle.overlap_guard.specs.Lanes.{lane_cells}
use Rattle.overlap_guard.proofs.TestLemmas.{same_bool, texture_iff}
use Rattle.overlap_guard.proofs.lanes.lanes_hazard.Goals as goal

pub returns-clause-value : goal.returns-clause-value
returns-clause-value c = same_bool _ _ c.lanes_read_written.ensures
    (texture_iff (lane_cells c.args.xs c.args.ys c.args.n) c.args.clut c.args.to c.args.n)
