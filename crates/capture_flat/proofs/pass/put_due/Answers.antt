use Rattle.gathered_out.proofs.Puts.{put_fails, put_first, put_none, puts_on}
use Rattle.capture_flat.proofs.pass.put_due.Goals as goal

pub returns-in-Ok : goal.returns-in-Ok
returns-in-Ok g c = rw (← c.saturating_add-number.ensures)
    (puts_on _ _ _ _ _ _ _ (put_first _ _ _ _ c.in-Ok.ensures) c.spell_operation.ensures)

pub returns-in-Err : goal.returns-in-Err
returns-in-Err g c = rw (← c.saturating_add-number.ensures)
    (put_fails _ _ _ _ _ _ _ _ (put_none _ _) c.in-Err.ensures)
