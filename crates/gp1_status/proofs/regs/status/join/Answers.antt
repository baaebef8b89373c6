use Rattle.std.proofs.Common.{◌≡◌, ◌*◌, ◌%◌, ◌^◌, arith}
use Rattle.std.proofs.lemmas.Nat.{or_shifted}
use Rattle.gp1_status.proofs.regs.status.join.Goals as goal

pub returns : goal.returns
returns c =
    let value = c.args.value * 2 ^ c.args.at in
    let small : value % 2 ^ 32 ≡ value = omega (arith, c.requires.fits) in
    rw (small, or_shifted c.args.value c.args.at c.args.word c.requires.below) (omega arith)
