use Rattle.capture_slim.proofs.rest.write_rest.Goals as goal

pub returns-in-Ok-clause-late : goal.returns-in-Ok-clause-late
returns-in-Ok-clause-late g c = λ least from. c.write_buffered.ensures.late least (c.in-Ok.ensures.late least from)

pub returns-in-Err-clause-late : goal.returns-in-Err-clause-late
returns-in-Err-clause-late g c = λ least from. c.in-Err.ensures.late least from
