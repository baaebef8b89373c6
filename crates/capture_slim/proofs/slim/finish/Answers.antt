use Rattle.std.proofs.Common.{arith}
use Rattle.capture_slim.proofs.Firsts.{closes, events_count, gone, rest_stopped}
use Rattle.capture_slim.proofs.Late.{stops_from}
use Rattle.capture_slim.proofs.slim.finish.Goals as goal

pub returns-in-Ok-clause-ends : goal.returns-in-Ok-clause-ends
returns-in-Ok-clause-ends g c = λ passed came.
    closes _ _ _ _ _ came c.write_rest.new.draft.file _ c.write_rest.ensures.version
    (c.in-Ok.ensures.ok passed.base (gone _ _ _ _ _ came) came.draft_is (events_count _ _ _ _ _ came))
    c.args.stop _ c.close_file.result c.close_file.ensures.ends c.close_file.ensures.writes

pub returns-in-Err-clause-ends : goal.returns-in-Err-clause-ends
returns-in-Err-clause-ends g c = λ passed came.
    rest_stopped _ _ _ _ _ came c.args.stop _ c.in-Err.ending c.write_rest.ensures.most
    (c.in-Err.ensures.ends passed.base (gone _ _ _ _ _ came) came.draft_is (events_count _ _ _ _ _ came))

pub returns-in-Ok-clause-late : goal.returns-in-Ok-clause-late
returns-in-Ok-clause-late g c = λ least from.
    stops_from least _ c.args.stop c.close_file.result c.close_file.ensures.ends (omega (arith, from.later))

pub returns-in-Err-clause-late : goal.returns-in-Err-clause-late
returns-in-Err-clause-late g c = λ least from. c.in-Err.ensures.late least from
