use Rattle.gp0_packets.proofs.DrawnBy.{polygon_drawn}
use Rattle.gp0_packets.proofs.decoder.decode_polygon.Goals as goal

pub returns : goal.returns
returns c =
    polygon_drawn c.args.words.now c.polygon.result c.requires.words c.polygon.ensures.value c.polygon.ensures.ranges
