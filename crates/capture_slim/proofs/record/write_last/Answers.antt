use Rattle.capture_slim.proofs.record.write_last.Goals as goal

pub returns : goal.returns
returns g c = rw (← c.end.ensures.value, ← c.as_slice.ensures.value) c.write_all.ensures
