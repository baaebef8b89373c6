use lib.Bits.{bit_xor}
use Rattle.px_num.proofs.LaneOps.{long_zip, at_zip}
use Rattle.blend_dither.proofs.lanes.xor.Goals as goal

pub returns-clause-long : goal.returns-clause-long
returns-clause-long c = long_zip c.args.a c.args.b c.requires.0 c.requires.1 bit_xor

pub returns-clause-value : goal.returns-clause-value
returns-clause-value c i lt = at_zip c.args.a c.args.b c.requires.0 c.requires.1 bit_xor i lt
