use Rattle.dead_drawing.proofs.PacketLaw.{packet_law}
use Rattle.dead_drawing.proofs.laws.packets_are_unseen.Goals as goal

pub returns : goal.returns
returns c = packet_law
