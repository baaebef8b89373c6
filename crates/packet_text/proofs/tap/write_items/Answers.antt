use Rattle.std.proofs.Common.{arith}
use Rattle.std.proofs.lemmas.Result.{err_from_is_err_and}
use Rattle.dev_io.proofs.Writing.{underway_start, underway_on, underway_fails, underway_end}
use Rattle.packet_text.proofs.TapLemmas.{items_next, items_end}
use Rattle.packet_text.proofs.tap.write_items.Goals as goal

pub loop-item-init : goal.loop-item-init
loop-item-init g c = rw (c.saturating_sub-item.ensures, c.len-items.ensures) (underway_start _ _ _)

pub returns-in_err-write_item : goal.returns-in_err-write_item
returns-in_err-write_item g c =
    let p = err_from_is_err_and c.from_residual.result c.from_residual.ensures.1 in
    rw (p.1, p.2) (underway_fails _ _ _ _ _ _ _ _ _ c.loop-item.invariant
    (items_next (g.T.Listener.heard c.args.tap.now).numbers c.loop-item.item _ _ _
    (omega (arith, c.loop-item-test.true, c.len-items.ensures)) c.number-event.ensures c.number-class.ensures
    c.number-head.ensures) c.in_err-write_item.ensures)

pub loop-item-preserved : goal.loop-item-preserved
loop-item-preserved g c = underway_on _ _ _ _ _ _ _ _ _ c.loop-item.invariant
    (items_next (g.T.Listener.heard c.args.tap.now).numbers c.loop-item.item _ _ _
    (omega (arith, c.loop-item-test.true, c.len-items.ensures)) c.number-event.ensures c.number-class.ensures
    c.number-head.ensures) c.in_ok-write_item.ensures

pub returns : goal.returns
returns g c = underway_end _ _ _ _ _ _ c.loop-item.invariant
    (items_end (g.T.Listener.heard c.args.tap.now).numbers c.loop-item.item
    (omega (arith, c.loop-item-test.false, c.len-items.ensures)))
