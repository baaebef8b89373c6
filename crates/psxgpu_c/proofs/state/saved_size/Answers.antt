use Rattle.psxgpu_c.proofs.Loading.{saved_long}
use Rattle.psxgpu_c.proofs.state.saved_size.Goals as goal

pub returns : goal.returns
returns c = saved_long c.args.rig.now c.state_size.result c.state_size.ensures.value
