use Rattle.std.proofs.Common.{sym, ◌∙◌}
use Rattle.line_walk.proofs.RiseLemmas.{color-same}
use Rattle.line_walk.proofs.SlopeLemmas.{tint_is}
use Rattle.line_walk.proofs.tones.tint_between.Goals as goal

pub returns-then-from-to-clause-value : goal.returns-then-from-to-clause-value
returns-then-from-to-clause-value c n k most le are = rw (← c.if-from-to.true) (sym (color-same c.args.from n k))

pub returns-else-from-to-clause-value : goal.returns-else-from-to-clause-value
returns-else-from-to-clause-value c n k most le are =
    c.tint_of.ensures.value ∙ tint_is c.args.from c.args.to n k c.args.tones.now most le are
