use Rattle.gathered_out.proofs.Puts.{put_one}
use Rattle.capture_flat.proofs.pass.put_head.Goals as goal

pub returns-in-Some : goal.returns-in-Some
returns-in-Some g c = rw (← c.in-Some.ensures)
    (put_one _ _ _ _ _ c.put.ensures.ok c.put.ensures.failed c.put.ensures.cause c.put.ensures.faults)
