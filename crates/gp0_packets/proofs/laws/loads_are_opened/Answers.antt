use Rattle.gp0_packets.proofs.Opened.{whole-opens}
use Rattle.gp0_packets.proofs.laws.loads_are_opened.Goals as goal

pub returns : goal.returns
returns c = λ height words. whole-opens height words
