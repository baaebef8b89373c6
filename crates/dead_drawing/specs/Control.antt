-- What decides which packets follow and where they draw: the registers and what is pending, but no cell.
use Rattle.std.specs.Prelude.{ℕ, true, List, [], ◌∷◌, Option, Some, None, if◌then◌else◌}
use Rattle.gp0_words.specs.Next.{next_item, next_pending}
use Rattle.gp0_words.specs.declared.item.Item.{Item}
use Rattle.gp0_words.specs.declared.pending.Pending.{Pending}
use Rattle.gp0_words.specs.declared.pending.Pending.TheVariants as pending
use Rattle.gp0_packets.specs.Packets.{packet_of}
use Rattle.gp0_packets.specs.declared.packet.Packet.{Packet}
use Rattle.gp0_packets.specs.declared.packet.Packet.TheVariants as packet
use Rattle.gp1_status.specs.Registers.{Registers, env_of, gp1_of, is_clearing, reset}
use Rattle.gpu_capture.specs.declared.event.Event.{Event}
use Rattle.gpu_capture.specs.declared.event.Event.TheVariants as event
use Rattle.gpu_core.specs.Machine.{with_page}

-- the registers and what is pending; the latch, which reads of video memory change, is ignored
pub record Control : Type 0 where
  pub regs : Registers
  pub pending : Pending

-- the registers after a packet
abbrev pub regs_after : Registers → Packet → Registers
regs_after r (packet.Env index value) = env_of r index value
regs_after r packet.Irq = record r { irq = true }
regs_after r (packet.Poly four a b c d shaded textured semi raw clut page) = with_page r textured page
regs_after r other = r

abbrev pub regs_by : Registers → Option Item → Registers
regs_by r None = r
regs_by r (Some item) = regs_after r (packet_of r.height item)

-- the control after an event of the ports
unfoldable pub controlled : Control → Event → Control
controlled c (event.Gp0 word) =
    record { regs = regs_by c.regs (next_item c.pending word); pending = next_pending c.pending word }
controlled c (event.Gp1 word) =
    record { regs = gp1_of c.regs word; pending = if is_clearing word then pending.Idle else c.pending }
controlled c other = c

abbrev pub controls : List Event → Control → Control
controls [] c = c
controls (e ∷ events) c = controls events (controlled c e)

-- the registers after a reset, and nothing pending
abbrev pub first_control : (height : ℕ) → Control
first_control height = record { regs = reset 0 height; pending = pending.Idle }
