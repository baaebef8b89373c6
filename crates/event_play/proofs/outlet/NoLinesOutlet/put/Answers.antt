use Rattle.std.proofs.Common.{refl, arith}
use Rattle.gathered_out.specs.Pieces.{piece}
use Rattle.event_play.proofs.Outlets.{put_out}
use Rattle.event_play.proofs.outlet.NoLinesOutlet.put.Goals as goal

pub returns-clause-puts : goal.returns-clause-puts
returns-clause-puts c = record {
  puts = record { ok = put_out (piece c.args.number c.args.line.now) _ _ refl; failed = tt };
  cause = tt;
  faults = omega arith;
}
