use Rattle.event_play.proofs.Listed.{put_piece}
use Rattle.event_play.proofs.outlet.LinesOutlet.put.Goals as goal

pub returns-clause-puts : goal.returns-clause-puts
returns-clause-puts g c = record {
  puts = put_piece _ _ _ _ c.put.ensures.ok c.put.ensures.failed;
  cause = c.put.ensures.cause;
  faults = c.put.ensures.faults;
}
