use Rattle.std.proofs.Common.{sym, arith}
use Rattle.overlap_guard.proofs.TestLemmas.{false_of, copy_iff}
use Rattle.overlap_guard.proofs.laws.copies_without_hazard.Goals as goal

pub returns-clause-other_row : goal.returns-clause-other_row
returns-clause-other_row c source target n other = false_of _ (copy_iff source target n) (λ h. other (sym h.2.2.1))

pub returns-clause-leftward : goal.returns-clause-leftward
returns-clause-leftward c source target n left = false_of _ (copy_iff source target n)
    (λ h. omega (arith, h.2.1, h.2.2.0))

pub returns-clause-far : goal.returns-clause-far
returns-clause-far c source target n far = false_of _ (copy_iff source target n) (λ h. omega (arith, h.1, h.2.2.0))
