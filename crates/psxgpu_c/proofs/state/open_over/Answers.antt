use Rattle.std.proofs.Common.{refl}
use Rattle.psxgpu_c.proofs.Loading.{opened_rig, not_opened}
use Rattle.psxgpu_c.proofs.Starts.{never_rose}
use Rattle.psxgpu_c.proofs.state.open_over.Goals as goal

pub returns-in-Ok-open : goal.returns-in-Ok-open
returns-in-Ok-open g c = opened_rig _ _ _ _ _ _ _ c.new-source.ensures c.in-Ok-open.ensures.opened

pub returns : goal.returns
returns g c =
    let refused = c.in-Err.ensures.refused in (
      refl,
      not_opened _ _ _ _ _ c.in-Err.fault c.new-source.ensures refused
          (λ reads. never_rose (c.in-Err.ensures.cause reads)),
    )
