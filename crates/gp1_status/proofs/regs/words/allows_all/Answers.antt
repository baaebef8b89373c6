use Rattle.std.proofs.Common.{arith}
use Rattle.gp1_status.proofs.regs.words.allows_all.Goals as goal

pub returns-clause-yes : goal.returns-clause-yes
returns-clause-yes c = λ e. record { each = λ i h. c.loop-i.invariant i (omega (arith, h, c.loop-i-test.false)) }
