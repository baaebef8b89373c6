use Rattle.std.proofs.Common.{sym, ◌∙◌}
use Rattle.gpu_core.proofs.gpu.Gpu.set_registers.Goals as goal

pub invariant_of-self : goal.invariant_of-self
invariant_of-self c = rw c.set_all.ensures.load c.self.invariant

pub returns-then-passes-clause-sets : goal.returns-then-passes-clause-sets
returns-then-passes-clause-sets c = λ s first e. c.set_all.ensures.sets s first (e ∙ sym c.self.view_is)
