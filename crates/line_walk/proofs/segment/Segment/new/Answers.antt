use Rattle.std.proofs.Common.{arith}
use Rattle.std.proofs.lemmas.Int.{ints}
use Rattle.line_walk.proofs.Decided.{is_near-no}
use Rattle.line_walk.proofs.segment.Segment.new.Goals as goal

pub returns-else-across-le1023-clause-drawn : goal.returns-else-across-le1023-clause-drawn
returns-else-across-le1023-clause-drawn c = is_near-no c.args.a c.args.b (λ h. omega (arith, ints, h.across, h.down))
