use Rattle.std.proofs.Common.{rules}
use Rattle.event_play.specs.Frames.{frame_bytes, frame_sum}
use Rattle.event_play.proofs.film.write_sum.Goals as goal

pub returns-in-Some-clause-writes : goal.returns-in-Some-clause-writes
unfolding frame_sum frame_bytes
returns-in-Some-clause-writes g c = search rules
