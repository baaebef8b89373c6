use Rattle.gp0_packets.proofs.DrawnBy.{line_drawn}
use Rattle.gp0_packets.proofs.decoder.decode_line.Goals as goal

pub returns : goal.returns
returns c = line_drawn c.args.words.now c.line.result c.requires c.line.ensures.value c.line.ensures.ranges
