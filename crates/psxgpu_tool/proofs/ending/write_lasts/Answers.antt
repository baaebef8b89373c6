use Rattle.std.proofs.Common.{arith}
use Rattle.std.proofs.lemmas.Result.{err_from_is_err_and}
use Rattle.dev_io.proofs.Writing.{underway_start, underway_on, underway_fails, underway_end}
use Rattle.packet_text.specs.Tap.{last_lines}
use Rattle.psxgpu_tool.proofs.Lines.{lines_next, lines_end}
use Rattle.psxgpu_tool.proofs.ending.write_lasts.Goals as goal

pub loop-i-init : goal.loop-i-init
loop-i-init g c = underway_start _ _ _

pub returns-in_err-write_last : goal.returns-in_err-write_last
returns-in_err-write_last g c =
    let p = err_from_is_err_and c.from_residual.result c.from_residual.ensures.1 in
    rw (p.1, p.2) (underway_fails _ _ _ _ _ _ _ _ _ c.loop-i.invariant
    (lines_next last_lines g.T.Listener.heard c.args.taps.now.items c.loop-i.i c.index.result.now
    (omega (arith, c.loop-i-test.true, c.len-i-end.ensures)) c.index.ensures)
    c.in_err-write_last.ensures)

pub loop-i-preserved : goal.loop-i-preserved
loop-i-preserved g c = underway_on _ _ _ _ _ _ _ _ _ c.loop-i.invariant
    (lines_next last_lines g.T.Listener.heard c.args.taps.now.items c.loop-i.i c.index.result.now
    (omega (arith, c.loop-i-test.true, c.len-i-end.ensures)) c.index.ensures)
    c.in_ok-write_last.ensures

pub returns : goal.returns
returns g c = underway_end _ _ _ _ _ _ c.loop-i.invariant
    (lines_end last_lines g.T.Listener.heard c.args.taps.now.items c.loop-i.i
    (omega (arith, c.loop-i-test.false, c.len-i-end.ensures)))
