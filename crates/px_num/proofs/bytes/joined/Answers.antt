use Rattle.std.proofs.Common.{get_or, ap, ◌∙◌}
use Rattle.px_num.proofs.LaneOps.{at_zip}
use Rattle.px_num.proofs.ByteLemmas.{joined_is}
use Rattle.px_num.proofs.bytes.joined.Goals as goal

pub returns-clause-value : goal.returns-clause-value
returns-clause-value c i lt =
    let low = c.requires.low in
    let high = c.requires.high in
    ap (λ l. get_or l i 0) (joined_is c.args.low c.args.high low.long high.long low.low high.low)
    ∙ at_zip c.args.low c.args.high low.long high.long _ i lt
