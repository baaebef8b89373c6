use Rattle.std.proofs.Common.{inl, inr}
use Rattle.gpu_snapshot.proofs.Openings.{refuses_head, refuses_state, opens_capture, opens_state}
use Rattle.gpu_snapshot.proofs.opening.open.Goals as goal

pub returns-in-Ok-Capture-clause-opened : goal.returns-in-Ok-Capture-clause-opened
returns-in-Ok-Capture-clause-opened g c =
    inl (opens_capture _ _ _ c.in-Ok-Capture.version c.set_profile.new.rig c.at.result
    (rw c.in-Ok-Capture.field-0-is at c.in-Ok-Capture.ensures.takes)
    (rw c.in-Ok-Capture.field-0-is at c.in-Ok-Capture.ensures.bounds)
    c.at.ensures.offset c.at.ensures.stop
    (λ t stands. c.set_profile.ensures.stands t (rw c.requires.new stands)) c.set_profile.ensures.played)

pub returns-in-Ok-clause-opened : goal.returns-in-Ok-clause-opened
returns-in-Ok-clause-opened g c =
    inr (opens_state _ _ _ _ _ c.restore.new.rig c.in-Ok.reader
    (rw c.in-Ok-Snapshot.field-0-is at c.in-Ok-Snapshot.ensures.takes) c.in-Ok.ensures.restored)

pub returns-in-Err-restore-clause-refused : goal.returns-in-Err-restore-clause-refused
returns-in-Err-restore-clause-refused g c =
    refuses_state _ _ _ _ _ _ (rw c.in-Ok-Snapshot.field-0-is at c.in-Ok-Snapshot.ensures.takes)
    c.in-Err-restore.ensures.fault

pub returns-in-Err-clause-refused : goal.returns-in-Err-clause-refused
returns-in-Err-clause-refused g c = refuses_head _ _ _ c.in-Err.stop c.in-Err.ensures.stop
