use Rattle.capture_flat.proofs.Taking.{close_breaks, close_put}
use Rattle.capture_flat.proofs.passage.FlatteningPassage.close.Goals as goal

pub returns-in-Ok-clause-put : goal.returns-in-Ok-clause-put
returns-in-Ok-clause-put g c = λ s version events st. rw c.in-End.is
    (close_put s version events _ st c.played.result c.played.ensures _ _ c.in-Ok.ensures.ok)

pub returns-in-Err-clause-halts : goal.returns-in-Err-clause-halts
returns-in-Err-clause-halts g c = λ s version events st. rw c.in-End.is
    (close_breaks s version events _ st c.played.result c.played.ensures _ _ _ c.in-Err.ensures.failed, st)
