use Rattle.std.proofs.lemmas.Result.{err_from_is_err_and}
use Rattle.snapshot_words.specs.Taking.{remainder}
use Rattle.snapshot_words.proofs.Chain.{front_stops, registers_stop, pending_stop, store_stop, run_stop, all_came}
use Rattle.snapshot_words.proofs.read.read_outline.Goals as goal

pub returns-in_err-height-clause-fault : goal.returns-in_err-height-clause-fault
returns-in_err-height-clause-fault g c =
    let p = err_from_is_err_and c.from_residual.result c.from_residual.ensures.1 in
    rw (p.1, p.2) (front_stops (remainder _ _) _ _ c.in_err-height.ensures.fault)

pub returns-in_err-regs-clause-fault : goal.returns-in_err-regs-clause-fault
returns-in_err-regs-clause-fault g c =
    let p = err_from_is_err_and c.from_residual-in_err-regs.result c.from_residual-in_err-regs.ensures.1 in
    rw (p.1, p.2) (registers_stop _ _ _ _ c.in_ok-height.ensures.takes _ _ c.in_err-regs.ensures.fault)

pub returns-in_err-pending-clause-fault : goal.returns-in_err-pending-clause-fault
returns-in_err-pending-clause-fault g c =
    let p = err_from_is_err_and c.from_residual-in_err-pending.result c.from_residual-in_err-pending.ensures.1 in
    rw (p.1, p.2) (pending_stop _ _ _ _ c.in_ok-height.ensures.takes
    _ c.in_ok-regs.regs c.in_ok-regs.ensures.height c.in_ok-regs.ensures.takes _ _ c.in_err-pending.ensures.fault)

pub returns-in_err-store-clause-fault : goal.returns-in_err-store-clause-fault
returns-in_err-store-clause-fault g c =
    let p = err_from_is_err_and c.from_residual-in_err-store.result c.from_residual-in_err-store.ensures.1 in
    rw (p.1, p.2) (store_stop _ _ _ _ c.in_ok-height.ensures.takes
    _ c.in_ok-regs.regs c.in_ok-regs.ensures.height c.in_ok-regs.ensures.takes
    _ c.in_ok-pending.pending c.in_ok-pending.load c.in_ok-pending.ensures.bounds.link c.in_ok-pending.ensures.takes
    _ _ c.in_err-store.ensures.fault)

pub returns-in_err-run-clause-fault : goal.returns-in_err-run-clause-fault
returns-in_err-run-clause-fault g c =
    let p = err_from_is_err_and c.from_residual-in_err-run.result c.from_residual-in_err-run.ensures.1 in
    rw (p.1, p.2) (run_stop _ _ _ _ c.in_ok-height.ensures.takes
    _ c.in_ok-regs.regs c.in_ok-regs.ensures.height c.in_ok-regs.ensures.takes
    _ c.in_ok-pending.pending c.in_ok-pending.load c.in_ok-pending.ensures.bounds.link c.in_ok-pending.ensures.takes
    _ c.in_ok-store.store c.in_ok-store.ensures.takes _ _ c.in_err-run.ensures.fault)

pub returns-clause-takes : goal.returns-clause-takes
returns-clause-takes g c =
    all_came _ _ _ _ c.in_ok-height.ensures.takes
    _ c.in_ok-regs.regs c.in_ok-regs.ensures.height c.in_ok-regs.ensures.takes
    _ c.in_ok-pending.pending c.in_ok-pending.load c.in_ok-pending.ensures.bounds.link c.in_ok-pending.ensures.takes
    _ c.in_ok-store.store c.in_ok-store.ensures.takes _ c.in_ok-run.run' c.in_ok-run.ensures.takes
