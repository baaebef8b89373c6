use Rattle.dev_io.proofs.Writing.{writes_on}
use Rattle.psxgpu_c.proofs.state.write_saved.Goals as goal

pub returns-clause-writes : goal.returns-clause-writes
returns-clause-writes g c =
    let first = c.in_ok-write_state.ensures.writes in
    writes_on _ _ _ _ _ _ _ (record { bytes = first.ok; faults = first.faults }) c.write_end.ensures
