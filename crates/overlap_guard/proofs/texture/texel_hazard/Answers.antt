use Rattle.std.proofs.Common.{below_more, arith}
use Rattle.overlap_guard.proofs.texture.texel_hazard.Goals as goal

pub loop-j-preserved : goal.loop-j-preserved
loop-j-preserved c = below_more _ _ c.loop-j.invariant (λ h. absurd (cc (c.written_before.ensures.1 h)))

pub returns : goal.returns
returns c = (λ h. absurd cc, λ h. absurd (c.loop-j.invariant h.0 (omega (arith, h.1)) h.2))
