use Rattle.std.proofs.Common.{refl}
use Rattle.dev_io.proofs.Writing.{underway_start, underway_on, underway_last}
use Rattle.event_play.proofs.film.write_last_sums.Goals as goal

pub returns-clause-writes : goal.returns-clause-writes
returns-clause-writes g c =
    let first = underway_on _ _ _ _ _ _ _ _ _ (underway_start _ _ _) refl
    c.in_ok-write_last_sum.ensures.writes in
    underway_last _ _ _ _ _ _ _ first c.write_memory_sum.ensures.writes
