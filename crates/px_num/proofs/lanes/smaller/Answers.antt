use Rattle.std.proofs.Common.{◌∙◌, get_or, ltb, w16}
use Rattle.px_num.proofs.LaneOps.{long_where, at_where, smaller_is}
use Rattle.px_num.proofs.lanes.smaller.Goals as goal

pub returns-clause-long : goal.returns-clause-long
returns-clause-long c =
    let a = c.args.a in
    let b = c.args.b in
    long_where a b c.requires.0 c.requires.1 ltb a b c.requires.0 c.requires.1 w16

pub returns-clause-value : goal.returns-clause-value
returns-clause-value c i lt =
    let a = c.args.a in
    let b = c.args.b in
    at_where a b c.requires.0 c.requires.1 ltb a b c.requires.0 c.requires.1 w16 i lt
    ∙ smaller_is (get_or a i 0) (get_or b i 0)
