use Rattle.std.proofs.Common.{refl, rules}
use Rattle.prim_draw.specs.Areas.{area_of}
use Rattle.gpu_core.proofs.parts.Parts.carry_out.Goals as goal

pub returns-in-Pixels-clause-area : goal.returns-in-Pixels-clause-area
unfolding area_of
returns-in-Pixels-clause-area g c = rw c.in-Pixels.is refl

pub returns-in-Env-clause-area : goal.returns-in-Env-clause-area
unfolding area_of
returns-in-Env-clause-area g c = rw c.in-Env.is refl

pub returns-in-Irq-clause-area : goal.returns-in-Irq-clause-area
unfolding area_of
returns-in-Irq-clause-area g c = rw c.in-Irq.is refl

pub returns-in-Nop-clause-area : goal.returns-in-Nop-clause-area
unfolding area_of
returns-in-Nop-clause-area g c = search rules
