-- A new rig, and the machine that it represents.
use Rattle.std.proofs.Common.{◌≡◌, sym, subst, refl}
use Rattle.event_play.specs.RigState.{RigState, Stands, first_rig}
use Rattle.event_play.specs.Step.{first_machine}
use Rattle.gpu_core.specs.Machine.{first_state}
use Rattle.px_num.specs.Height.{short_height}

pub first_stands : (rig : RigState) → rig ≡ first_rig → Stands rig first_machine
unfolding first_machine
first_stands rig is =
    let P : RigState → Type 0 = λ rig. Stands rig first_machine in
    subst P (sym is) (record { gpu = refl; ram = refl; running = refl })

-- it is as high as the console's
pub first_short : first_machine.gpu.parts.regs.height ≡ short_height
unfolding first_machine first_state
first_short = refl
