use Rattle.std.proofs.Common.{refl, arith}
use Rattle.px_num.proofs.ByteLemmas.{first_byte}
use Rattle.px_num.proofs.bytes.first_bytes.Goals as goal

pub returns-clause-bytes : goal.returns-clause-bytes
returns-clause-bytes c = record {
  long = refl;
  low = λ i lt. omega (arith, first_byte c.args.cells c.requires c.fits-cells.1 i lt);
}

pub returns-clause-value : goal.returns-clause-value
returns-clause-value c = first_byte c.args.cells c.requires c.fits-cells.1
