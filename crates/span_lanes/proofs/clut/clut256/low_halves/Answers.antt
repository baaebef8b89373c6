use Rattle.std.proofs.Common.{◌∙◌, get_or}
use lib.Bits.{bit_and}
use Rattle.std.proofs.lemmas.Nat.{and_mask}
use Rattle.px_num.proofs.LaneOps.{long_splat, at_splat}
use Rattle.span_lanes.proofs.clut.clut256.low_halves.Goals as goal

pub returns-clause-long : goal.returns-clause-long
returns-clause-long c = long_splat bit_and c.args.a _ c.requires

pub returns-clause-value : goal.returns-clause-value
returns-clause-value c i lt =
    at_splat bit_and c.args.a _ c.requires i lt
    ∙ and_mask (get_or c.args.a i 0) 16
