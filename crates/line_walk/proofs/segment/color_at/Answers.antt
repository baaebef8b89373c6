use Rattle.std.proofs.Common.{sym}
use Rattle.line_walk.proofs.RiseLemmas.{color-same}
use Rattle.line_walk.proofs.segment.color_at.Goals as goal

pub returns-then-from-to-clause-value : goal.returns-then-from-to-clause-value
returns-then-from-to-clause-value c = rw (← c.if-from-to.true) (sym (color-same c.args.from c.args.n c.args.k))
