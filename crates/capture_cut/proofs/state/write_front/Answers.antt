use Rattle.std.proofs.Common.{[]}
use Rattle.std.proofs.lemmas.Result.{err_from_is_err_and}
use Rattle.dev_io.proofs.Writing.{wrote_none, fails_on, writes_on}
use Rattle.capture_cut.proofs.state.write_front.Goals as goal

pub returns-in_err-write_head : goal.returns-in_err-write_head
returns-in_err-write_head g c =
    let p = err_from_is_err_and c.from_residual.result c.from_residual.ensures.1 in
    rw (p.1, p.2) (fails_on _ _ _ _ [] _ _ _ (wrote_none _ _) c.in_err-write_head.ensures)

pub returns : goal.returns
returns g c =
    let first = c.in_ok-write_head.ensures in
    writes_on _ _ _ _ _ _ _ (record { bytes = first.ok; faults = first.faults }) c.write_outline.ensures
