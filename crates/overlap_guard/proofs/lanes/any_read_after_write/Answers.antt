use Rattle.overlap_guard.specs.Hazard.{has_texel_hazard}
use Rattle.overlap_guard.specs.Lanes.{lane_cells}
use Rattle.overlap_guard.proofs.TestLemmas.{texel_iff}
use Rattle.overlap_guard.proofs.ReadAfterWriteLemmas.{late_found, none_late, found_unless}
use Rattle.overlap_guard.proofs.lanes.any_read_after_write.Goals as goal

pub returns : goal.returns
returns c =
    let xs = c.args.xs in
    let ys = c.args.ys in
    let n = c.args.n in
    let cells = lane_cells xs ys n in
    let late = c.read_after_write_lanes.result in
    let lanes = c.read_after_write_lanes.ensures.late in
    found_unless c.are_zero.result c.are_zero.ensures (has_texel_hazard cells c.args.to) (texel_iff cells c.args.to)
    (late_found xs ys n c.args.to late c.requires.few lanes)
    (none_late xs ys n c.args.to late c.requires.few lanes)
