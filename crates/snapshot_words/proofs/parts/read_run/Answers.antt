use Rattle.snapshot_words.proofs.Pendings.{run_is}
use Rattle.snapshot_words.proofs.parts.read_run.Goals as goal

pub returns-in-Ok-clause-bounds : goal.returns-in-Ok-clause-bounds
returns-in-Ok-clause-bounds g c =
    let is = run_is _ c.in-Ok.ensures.whole in rw (c.run_in.ensures, c.as_slice.ensures.value) is.bounds
