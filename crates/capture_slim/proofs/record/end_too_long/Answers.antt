use Rattle.std.proofs.Common.{refl}
use Rattle.gathered_out.proofs.Pieces.{only_buffered}
use Rattle.capture_slim.proofs.Late.{from_off}
use Rattle.capture_slim.proofs.record.end_too_long.Goals as goal

pub returns-in-Ok-clause-ends : goal.returns-in-Ok-clause-ends
returns-in-Ok-clause-ends g c = (refl, c.in-Ok.ensures.ok _ _ (only_buffered _ _))

pub returns-in-Err-clause-ends : goal.returns-in-Err-clause-ends
returns-in-Err-clause-ends g c = c.in-Err.ensures.failed _ _ (only_buffered _ _)

pub returns-in-Err-clause-late : goal.returns-in-Err-clause-late
returns-in-Err-clause-late g c = λ least from.
    from_off least _ _ _ c.in-Err.event from (c.in-Err.ensures.failed _ _ (only_buffered _ _))
