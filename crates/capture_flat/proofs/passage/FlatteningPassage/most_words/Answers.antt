use Rattle.std.proofs.Common.{arith, inl}
use Rattle.capture_flat.proofs.passage.FlatteningPassage.most_words.Goals as goal

pub returns-clause-may : goal.returns-clause-may
returns-clause-may g c = λ n le.
    omega (arith, le, c.min.ensures, c.room.ensures)

pub returns-clause-waits : goal.returns-clause-waits
returns-clause-waits g c = inl (omega (arith, c.min.ensures))
