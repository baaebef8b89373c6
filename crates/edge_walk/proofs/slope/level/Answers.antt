use Rattle.std.proofs.Common.{true, false, refl, ◌∙◌}
use Rattle.edge_walk.proofs.SlopeLemmas.{level_is}
use Rattle.edge_walk.proofs.slope.level.Goals as goal

pub returns-then-right : goal.returns-then-right
returns-then-right c p q level to = level_is p q true _ level (to ∙ c.if-right.true) refl

pub returns-else-right : goal.returns-else-right
returns-else-right c p q level to = level_is p q false _ level (to ∙ c.if-right.false) refl
