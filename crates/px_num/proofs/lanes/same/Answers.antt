use Rattle.px_num.proofs.SameLemmas.{same_lanes, all_lanes}
use Rattle.px_num.proofs.lanes.same.Goals as goal

pub returns : goal.returns
returns c = (
  same_lanes c.args.a c.args.b c.requires.0 c.requires.1,
  all_lanes c.args.a c.args.b c.requires.0 c.requires.1,
)
