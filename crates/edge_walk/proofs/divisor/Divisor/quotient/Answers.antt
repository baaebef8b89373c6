use Rattle.std.proofs.Common.{◌*◌, ◌/◌, ◌^◌, ap, ◌∙◌, arith}
use Rattle.edge_walk.proofs.DivisorLemmas.{reciprocal_exact, reciprocal_bound, square_bound}
use Rattle.edge_walk.proofs.divisor.Divisor.quotient.Goals as goal

pub overflow_mul-result : goal.overflow_mul-result
overflow_mul-result c =
    let d = c.args.self.now in
    let bound = reciprocal_bound c.args.sum d.area (2 ^ 56) c.requires.divisor.some c.requires.sum in
    rw c.requires.divisor.reciprocal (omega (arith, bound, c.requires.divisor.most))

pub overflow_cast-result-2 : goal.overflow_cast-result-2
overflow_cast-result-2 c =
    let d = c.args.self.now in
    let bound = reciprocal_bound c.args.sum d.area (2 ^ 56) c.requires.divisor.some c.requires.sum in
    rw c.requires.divisor.reciprocal (omega (arith, bound, c.requires.divisor.most))

pub returns : goal.returns
returns c =
    let d = c.args.self.now in
    ap (λ r. c.args.sum * r / 2 ^ 56) c.requires.divisor.reciprocal
    ∙ reciprocal_exact c.args.sum d.area (2 ^ 56) c.requires.divisor.some c.requires.sum
    (square_bound d.area c.requires.divisor.most)
