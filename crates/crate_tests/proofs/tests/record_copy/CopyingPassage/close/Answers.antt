use Rattle.event_loop.proofs.Commands.{break_is, put_is}
use Rattle.crate_tests.proofs.tests.record_copy.CopyingPassage.close.Goals as goal

pub returns-in-Ok-clause-put : goal.returns-in-Ok-clause-put
returns-in-Ok-clause-put g c = λ s version events stands.
    put_is _ _ _ _ _ (c.next_number.ensures s version events stands) c.end_record.ensures _ c.in-Ok.ensures.ok

pub returns-in-Err-clause-halts : goal.returns-in-Err-clause-halts
returns-in-Err-clause-halts g c = λ s version events stands. (
  break_is _ _ _ _ _ (c.next_number.ensures s version events stands) c.end_record.ensures _ _ c.in-Err.ensures.failed,
  stands.1,
)
