use Rattle.std.proofs.Common.{pos, int_lt, unsigned_abs, arith}
use Rattle.std.proofs.lemmas.Int.{ints, to_z-of_z}
use Rattle.edge_walk.specs.Line.{scaled}
use Rattle.edge_walk.proofs.NumberLemmas.{wrapped_is}
use Rattle.edge_walk.proofs.line.scaled.Goals as goal

pub returns : goal.returns
unfolding scaled
returns c =
    let step = c.args.step in
    let step_fits = c.ranges.step in
    let word = simp to_z-of_z at c.cast_unsigned.ensures in
    wrapped_is (int_lt step (pos 0)) c.cast_unsigned.result (unsigned_abs step) c.args.by
    (λ falls. omega (arith, ints, falls, word)) (λ rises. omega (arith, ints, rises, word))
