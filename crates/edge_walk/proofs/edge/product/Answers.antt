use Rattle.std.proofs.Common.{◌-◌, ◌^◌, w64, arith, unsigned_abs}
use Rattle.std.proofs.lemmas.Int.{to_z-of_z, fits_signed_mul, unsigned_abs-mul}
use Rattle.std.proofs.lemmas.Nat.{mul-le}
use Rattle.edge_walk.proofs.edge.product.Goals as goal

pub returns-clause-value : goal.returns-clause-value
returns-clause-value c =
    let a_fits = c.ranges.a in
    let b_fits = c.ranges.b in
    let fits = fits_signed_mul w64 c.args.a c.args.b 1023 (2 ^ 32) c.requires.a (omega arith) (omega arith) in
    simp to_z-of_z

pub returns-clause-bound : goal.returns-clause-bound
returns-clause-bound c =
    let a_fits = c.ranges.a in
    let b_fits = c.ranges.b in
    let fits = fits_signed_mul w64 c.args.a c.args.b 1023 (2 ^ 32) c.requires.a (omega arith) (omega arith) in
    simp to_z-of_z
    (rw unsigned_abs-mul
    (omega (
      arith,
      mul-le (unsigned_abs c.args.a) (unsigned_abs c.args.b) 1023 (2 ^ 32 - 1) c.requires.a
          (omega arith),
    )))
