use Rattle.std.proofs.Common.{ap, ◌∙◌}
use Rattle.gp1_status.specs.Registers.{Registers}
use Rattle.gpu_core.proofs.States.{gp1-height}
use Rattle.gpu_core.proofs.parts.Parts.gp1.Goals as goal

pub invariant_of-self : goal.invariant_of-self
invariant_of-self c =
    let height = ap (λ (r : Registers). r.height) c.gp1.ensures ∙ gp1-height c.self.inside.regs c.args.word in
    let kept = c.self.invariant in
    rw height (record { load = kept.load; store = kept.store; rows = kept.rows })
