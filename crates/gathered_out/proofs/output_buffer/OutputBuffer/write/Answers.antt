use Rattle.gathered_out.proofs.Pieces.{all_out, breaks_all}
use Rattle.gathered_out.proofs.output_buffer.OutputBuffer.write.Goals as goal

pub returns-in-Ok-clause-ok : goal.returns-in-Ok-clause-ok
returns-in-Ok-clause-ok g c = λ before pieces out. all_out _ _ _ _ _ out c.in-Ok.ensures.ok

pub returns-in-Err-clause-failed : goal.returns-in-Err-clause-failed
returns-in-Err-clause-failed g c = λ before pieces out. breaks_all _ _ _ _ _ _ out c.in-Err.ensures.failed
