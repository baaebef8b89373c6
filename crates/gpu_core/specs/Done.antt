-- The execution of a packet.
use Rattle.std.specs.Prelude.{◌≡◌, ◌≤◌, ℕ, ◌+◌, Option}
use Rattle.px_num.specs.declared.shape.Box2.{Box2}
use Rattle.gp0_packets.specs.declared.packet.Packet.{Packet}
use Rattle.prim_draw.specs.Areas.{area_of}
use Rattle.gpu_core.specs.Cost.{packet_cost}
use Rattle.gpu_core.specs.Machine.{Parts, effect_of}

-- the GPU without its splitter, and the number of steps so far
pub record PartsAndSteps : Type 0 where
  pub parts : Parts
  pub steps : ℕ

-- the packet took effect, within its cost, and its area is computed from the registers before it
pub record IsDone (what : Packet) (before after : PartsAndSteps) (found : Option Box2) : Type 0 where
  pub area : found ≡ area_of before.parts.regs what
  pub effect : after.parts ≡ effect_of before.parts what
  pub cost : after.steps ≤ before.steps + packet_cost before.parts what
