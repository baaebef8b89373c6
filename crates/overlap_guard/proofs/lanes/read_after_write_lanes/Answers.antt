use Rattle.std.proofs.Common.{ℕ, get_or}
use Rattle.overlap_guard.proofs.ReadAfterWriteLemmas.{late_lane}
use Rattle.overlap_guard.proofs.lanes.read_after_write_lanes.Goals as goal

pub returns-clause-late : goal.returns-clause-late
returns-clause-late c j lane =
    let x : ℕ = get_or c.args.xs j 0 in
    let y : ℕ = get_or c.args.ys j 0 in
    let ramp = c.ramp-lanes.ensures.value j lane in
    let none = c.splat-none.ensures.value j lane in
    let before = rw (ramp, none, c.splat.ensures.value j lane) at (c.where_below-before.ensures.value j lane) in
    let row = rw (c.splat-2.ensures.value j lane, before, none) at (c.where_equal-row.ensures.value j lane) in
    let above = rw (c.splat-3.ensures.value j lane) at (c.wrapping_sub.ensures.value j lane) in
    let is = rw (row, above) at (c.sub_or_zero.ensures.value j lane) in
    rw is (late_lane j c.args.n x y c.args.to.x c.args.to.y (c.requires.in_row j lane) c.requires.target lane)
