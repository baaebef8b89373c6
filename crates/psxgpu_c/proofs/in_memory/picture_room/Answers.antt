use Rattle.std.proofs.Common.{arith}
use Rattle.psxgpu_c.proofs.Capacity.{picture_fits}
use Rattle.psxgpu_c.proofs.in_memory.picture_room.Goals as goal

pub returns : goal.returns
returns c =
    let fits = picture_fits c.args._vram.now c.args._regs.now c.args.size c.requires (omega arith) (omega arith) in
    omega (arith, fits)
