use Rattle.std.proofs.Common.{[]}
use Rattle.std.proofs.lemmas.Result.{err_from_is_err_and}
use Rattle.dev_io.proofs.Writing.{wrote_none, fails_on, writes_on}
use Rattle.capture_cut.proofs.Spelling.{rig_from}
use Rattle.capture_cut.proofs.state.write_state.Goals as goal

pub returns-in_err-write_front-clause-writes : goal.returns-in_err-write_front-clause-writes
returns-in_err-write_front-clause-writes g c =
    let p = err_from_is_err_and c.from_residual.result c.from_residual.ensures.1 in
    rw (p.1, p.2, rig_from c.args.rig.now c.outline_of.result c.outline_of.ensures.value)
    (fails_on _ _ _ _ [] _ _ _ (wrote_none _ _) c.in_err-write_front.ensures)

pub returns-clause-writes : goal.returns-clause-writes
returns-clause-writes g c =
    let first = c.in_ok-write_front.ensures in
    rw (rig_from c.args.rig.now c.outline_of.result c.outline_of.ensures.value)
    (writes_on _ _ _ _ _ _ _ (record { bytes = first.ok; faults = first.faults }) c.write_memories.ensures.writes)
