use Rattle.capture_slim.proofs.Firsts.{events_count, gone, rest_all, rest_refused}
use Rattle.capture_slim.proofs.slim.refuse.Goals as goal

pub returns-in-Ok-clause-ends : goal.returns-in-Ok-clause-ends
returns-in-Ok-clause-ends g c = λ passed came.
    rest_all _ _ _ _ _ came c.write_rest.new.draft.file _ c.write_rest.ensures.version
    (c.in-Ok.ensures.ok passed.base (gone _ _ _ _ _ came) came.draft_is (events_count _ _ _ _ _ came))

pub returns-in-Err-clause-ends : goal.returns-in-Err-clause-ends
returns-in-Err-clause-ends g c = λ passed came.
    rest_refused _ _ _ _ _ came _ c.in-Err.ending c.write_rest.ensures.most
    (c.in-Err.ensures.ends passed.base (gone _ _ _ _ _ came) came.draft_is (events_count _ _ _ _ _ came))

pub returns-in-Err-clause-late : goal.returns-in-Err-clause-late
returns-in-Err-clause-late g c = λ least from. c.in-Err.ensures.late least from
