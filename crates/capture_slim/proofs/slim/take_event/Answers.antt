use Rattle.capture_slim.proofs.slim.take_event.Goals as goal

pub returns-else-is_at_ports-clause-late : goal.returns-else-is_at_ports-clause-late
returns-else-is_at_ports-clause-late g c = λ passed least came from. c.refuse.ensures.late least from
