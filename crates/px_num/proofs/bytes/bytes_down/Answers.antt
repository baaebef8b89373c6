use Rattle.px_num.proofs.LaneOps.{long_splat, at_splat}
use Rattle.px_num.proofs.bytes.bytes_down.Goals as goal

pub returns-clause-long : goal.returns-clause-long
returns-clause-long c = long_splat _ c.args.a c.args.by c.requires.long

pub returns-clause-value : goal.returns-clause-value
returns-clause-value c = at_splat _ c.args.a c.args.by c.requires.long
