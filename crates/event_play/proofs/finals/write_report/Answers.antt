use Rattle.std.proofs.Common.{arith}
use Rattle.std.proofs.lemmas.Result.{err_from_is_err_and}
use Rattle.dev_io.proofs.Writing.{underway_start, underway_on, underway_fails, underway_end}
use Rattle.event_play.proofs.Reports.{reports_next, reports_end}
use Rattle.event_play.proofs.finals.write_report.Goals as goal

pub loop-i-init : goal.loop-i-init
loop-i-init g c = underway_start _ _ _

pub returns-in_err-write_tap : goal.returns-in_err-write_tap
returns-in_err-write_tap g c =
    let p = err_from_is_err_and c.from_residual.result c.from_residual.ensures.1 in
    let next = reports_next g.T.Listener.heard c.args.taps.now.items c.loop-i.i c.index.result.now
    (omega arith) c.index.ensures in
    rw (p.1, p.2) (underway_fails _ _ _ _ _ _ _ _ _ c.loop-i.invariant next c.in_err-write_tap.ensures)

pub loop-i-preserved : goal.loop-i-preserved
loop-i-preserved g c =
    let next = reports_next g.T.Listener.heard c.args.taps.now.items c.loop-i.i c.index.result.now
    (omega arith) c.index.ensures in
    underway_on _ _ _ _ _ _ _ _ _ c.loop-i.invariant next c.in_ok-write_tap.ensures

pub returns : goal.returns
returns g c = underway_end _ _ _ _ _ _ c.loop-i.invariant
    (reports_end g.T.Listener.heard c.args.taps.now.items c.loop-i.i (omega arith))
