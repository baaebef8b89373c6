use Rattle.std.proofs.Common.{arith}
use Rattle.capture_flat.proofs.Taking.{first_stands}
use Rattle.capture_flat.proofs.passage.FlatteningPassage.begin.Goals as goal

pub returns-clause-stands : goal.returns-clause-stands
returns-clause-stands g c = λ s begins.
    first_stands _ _ _ _ _ begins c.requires (omega (arith, c.max.ensures)) c.raise.ensures
