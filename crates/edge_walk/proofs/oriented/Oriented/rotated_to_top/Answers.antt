use Rattle.std.proofs.Common.{arith}
use Rattle.std.proofs.lemmas.Int.{ints, by_lt_z}
use Rattle.edge_walk.proofs.Corner.{not_level, upright_next}
use Rattle.edge_walk.proofs.oriented.Oriented.rotated_to_top.Goals as goal
use Rattle.edge_walk.proofs.oriented.Oriented.rotated_to_top.Goals.{else-self-via-then-self+else-self-2}
use Rattle.edge_walk.proofs.oriented.Oriented.rotated_to_top.Goals.{else-self-via-else-self}
use Rattle.edge_walk.proofs.oriented.Oriented.rotated_to_top.Goals.{else-self-3-via-then-self-3+else-self-4}
use Rattle.edge_walk.proofs.oriented.Oriented.rotated_to_top.Goals.{else-self-3-via-else-self-3}

pub invariant_of-result : goal.invariant_of-result
invariant_of-result c = let t = c.args.self.now in
    record { oriented_triangle = upright_next t.a t.b t.c t.oriented_triangle }

pub invariant_of-result-2 : goal.invariant_of-result-2
invariant_of-result-2 c =
    let t = c.args.self.now in
    record { oriented_triangle = upright_next t.b t.c t.a (upright_next t.a t.b t.c t.oriented_triangle) }

pub returns-clause-rises : goal.returns-clause-rises
returns-clause-rises c =
    let t = c.args.self.now in
    elim c.else-self.branch [
      | else-self-via-then-self+else-self-2 v ↦ elim c.else-self-3.branch [
        | else-self-3-via-then-self-3+else-self-4 w ↦ omega (arith, ints, w.if-self-4.false)
        | else-self-3-via-else-self-3 w ↦ omega (arith, ints, v.if-self-2.false, w.if-self-3.false)
      ]
      | else-self-via-else-self v ↦ elim c.else-self-3.branch [
        | else-self-3-via-then-self-3+else-self-4 w ↦ omega (arith, ints, w.if-self-4.false)
        | else-self-3-via-else-self-3 w ↦ by_lt_z t.a.y t.c.y (λ less. less)
            (λ le. absurd (not_level t.a t.b t.c c.args.self.now.oriented_triangle
            (omega (arith, ints, v.if-self.false, w.if-self-3.false, le))
            (omega (arith, ints, v.if-self.false, w.if-self-3.false, le))))
      ]
    ]
