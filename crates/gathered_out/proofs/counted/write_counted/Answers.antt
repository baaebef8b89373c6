use Rattle.std.proofs.Common.{arith}
use Rattle.dev_io.proofs.Appended.{accepts_on}
use Rattle.gathered_out.proofs.counted.write_counted.Goals as goal

pub loop-at-preserved : goal.loop-at-preserved
loop-at-preserved g c =
    let on = accepts_on _ _ _ _ _ _ c.loop-at.invariant.in_piece c.loop-at.invariant.held c.in-Ok.ensures.ok in
    record {
      in_piece = on.0;
      held = on.1;
      faults = omega (arith, c.write.ensures.faults, c.loop-at.invariant.faults);
    }
