use Rattle.std.proofs.Common.{◌∙◌}
use Rattle.gathered_out.proofs.Pieces.{only_buffered}
use Rattle.capture_slim.proofs.Late.{from_off}
use Rattle.capture_slim.proofs.rest.write_buffered.Goals as goal

pub returns-in-Ok-clause-ok : goal.returns-in-Ok-clause-ok
returns-in-Ok-clause-ok g c = λ base outs is. record {
  stands = c.in-Ok.ensures.ok _ _ (only_buffered _ _) ∙ is.file_is.stands;
  size_is = is.file_is.size_is;
  fits = is.file_is.fits;
}

pub returns-in-Err-clause-ends : goal.returns-in-Err-clause-ends
returns-in-Err-clause-ends g c = λ base outs last is.
    is.lacks _ _ (c.in-Err.ensures.failed _ _ (only_buffered _ _))

pub returns-in-Err-clause-late : goal.returns-in-Err-clause-late
returns-in-Err-clause-late g c = λ least from.
    from_off least _ _ _ c.in-Err.event from (c.in-Err.ensures.failed _ _ (only_buffered _ _))
