use Rattle.gp0_packets.proofs.DrawnBy.{rectangle_drawn}
use Rattle.gp0_packets.proofs.decoder.decode_rectangle.Goals as goal

pub returns : goal.returns
returns c =
    rectangle_drawn c.args.words.now c.rectangle.result c.requires c.rectangle.ensures.value c.rectangle.ensures.ranges
