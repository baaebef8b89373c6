use Rattle.px_num.proofs.LaneOps.{long_splat, at_splat}
use Rattle.edge_walk.proofs.line.plus.Goals as goal

pub returns-clause-long : goal.returns-clause-long
returns-clause-long c = long_splat _ c.args.a c.args.b c.requires

pub returns-clause-value : goal.returns-clause-value
returns-clause-value c = at_splat _ c.args.a c.args.b c.requires
