use Rattle.std.proofs.Common.{ap, arith}
use Rattle.std.proofs.lemmas.List.{drop_all}
use Rattle.std.proofs.lemmas.Result.{err_from_is_err_and}
use Rattle.dev_io.proofs.Writing.{underway_start, underway_on, underway_fails, underway_end}
use Rattle.packet_text.specs.Tap.{numbers_text}
use Rattle.packet_text.proofs.TapLemmas.{numbers_next}
use Rattle.packet_text.proofs.tap.write_numbers.Goals as goal

pub loop-i-init : goal.loop-i-init
loop-i-init g c = underway_start _ _ _

pub returns-in_err-write_number : goal.returns-in_err-write_number
returns-in_err-write_number g c =
    let p = err_from_is_err_and c.from_residual.result c.from_residual.ensures.1 in
    rw (p.1, p.2) (underway_fails _ _ _ _ _ _ _ _ _ c.loop-i.invariant
    (numbers_next (g.T.Listener.heard c.args.tap.now).numbers c.loop-i.i c.number.result
    (omega (arith, c.loop-i-test.true, c.len-i-end.ensures)) c.number.ensures) c.in_err-write_number.ensures)

pub loop-i-preserved : goal.loop-i-preserved
loop-i-preserved g c = underway_on _ _ _ _ _ _ _ _ _ c.loop-i.invariant
    (numbers_next (g.T.Listener.heard c.args.tap.now).numbers c.loop-i.i c.number.result
    (omega (arith, c.loop-i-test.true, c.len-i-end.ensures)) c.number.ensures) c.in_ok-write_number.ensures

pub returns : goal.returns
returns g c = underway_end _ _ _ _ _ _ c.loop-i.invariant
    (ap numbers_text
    (drop_all c.loop-i.i (g.T.Listener.heard c.args.tap.now).numbers
    (omega (arith, c.loop-i-test.false, c.len-i-end.ensures))))
