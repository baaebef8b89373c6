use Rattle.std.proofs.Common.{arith}
use Rattle.psxgpu_c.proofs.Capacity.{length_dump}
use Rattle.psxgpu_c.proofs.in_memory.dump_size.Goals as goal

pub returns : goal.returns
returns c = let long = length_dump c.args.vram.now in omega (arith, long, c.height.ensures.cells)
