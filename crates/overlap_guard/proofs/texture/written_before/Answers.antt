use Rattle.std.proofs.Common.{◌-◌, arith}
use Rattle.overlap_guard.proofs.texture.written_before.Goals as goal

pub returns : goal.returns
returns c = (
  λ h. let r = c.lies_before.ensures.0 h in
      (c.args.cell.x - c.args.to.x, omega (arith, r.1, r.2), (omega (arith, r.1, r.2), r.0)),
  λ h. c.lies_before.ensures.1 (h.2.1, omega (arith, h.1, h.2.0), omega (arith, h.1, h.2.0)),
)
