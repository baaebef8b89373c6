use Rattle.std.proofs.Common.{arith}
use Rattle.std.proofs.lemmas.Int.{ints}
use Rattle.edge_walk.proofs.SlopeLemmas.{falling_is, rising_is}
use Rattle.edge_walk.proofs.slope.steep.Goals as goal

pub returns-then-rises : goal.returns-then-rises
returns-then-rises c p q fall =
    let parts = c.parts_over-parts.ensures in
    rising_is c.args.rows c.parts_over-parts.result c.requires.some c.requires.most parts.enough parts.close p q _
    (omega (arith, ints, parts.most)) parts.most (rw c.if-rises.true at fall)

pub returns-else-rises : goal.returns-else-rises
returns-else-rises c p q fall =
    let parts = c.parts_over-parts.ensures in
    falling_is c.args.rows c.parts_over-parts.result c.requires.some c.requires.most parts.enough parts.close p q _
    (omega (arith, ints, parts.most)) parts.most (rw c.if-rises.false at fall)
