use Rattle.std.proofs.Common.{ltb, w16}
use Rattle.px_num.proofs.LaneOps.{long_where, at_where}
use Rattle.px_num.proofs.lanes.where_below.Goals as goal

pub returns-clause-long : goal.returns-clause-long
returns-clause-long c =
    long_where c.args.a c.args.b c.requires.tested.0 c.requires.tested.1 ltb c.args.first c.args.others
    c.requires.chosen.0 c.requires.chosen.1 w16

pub returns-clause-value : goal.returns-clause-value
returns-clause-value c =
    at_where c.args.a c.args.b c.requires.tested.0 c.requires.tested.1 ltb c.args.first c.args.others
    c.requires.chosen.0 c.requires.chosen.1 w16
