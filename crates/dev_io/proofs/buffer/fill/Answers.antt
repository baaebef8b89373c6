use Rattle.std.proofs.Common.{arith}
use Rattle.dev_io.proofs.Parts.{gives_on}
use Rattle.dev_io.proofs.buffer.fill.Goals as goal

pub loop-n-preserved : goal.loop-n-preserved
loop-n-preserved g c =
    let took = rw c.in-Some.is at c.in-Ok.ensures.ok in
    record {
      so_far = gives_on _ _ _ _ _ _ _ _ c.loop-n.invariant.so_far.fits c.loop-n.invariant.so_far took;
      faults = omega (arith, c.loop-n.invariant.faults, c.in-Ok.ensures.faults);
    }
