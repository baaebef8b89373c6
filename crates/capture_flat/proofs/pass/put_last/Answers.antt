use Rattle.gathered_out.proofs.Puts.{put_one}
use Rattle.capture_flat.proofs.pass.put_last.Goals as goal

pub returns : goal.returns
returns g c = rw (← c.saturating_add.ensures, ← c.end.ensures.value, ← c.as_slice.ensures.value)
    (put_one _ _ _ _ _ c.put.ensures.ok c.put.ensures.failed c.put.ensures.cause c.put.ensures.faults)
