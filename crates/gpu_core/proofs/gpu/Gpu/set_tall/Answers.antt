use Rattle.std.proofs.Common.{sym, ap, ◌∙◌}
use Rattle.gpu_core.specs.Kept.{Kept}
use Rattle.gpu_core.specs.Machine.{tall_state, tall_parts}
use Rattle.gpu_core.proofs.gpu.Gpu.set_tall.Goals as goal

pub returns : goal.returns
unfolding tall_state
returns c = λ s e.
    let f : Kept → Kept = λ k. record { parts = tall_parts k.parts; pending = k.pending } in
    rw c.set_tall.ensures (ap f (e ∙ sym c.self.view_is))
