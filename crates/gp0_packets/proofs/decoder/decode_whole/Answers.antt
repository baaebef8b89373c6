use Rattle.gp0_packets.proofs.decoder.decode_whole.Goals as goal

pub returns-in-1-clause-ranges : goal.returns-in-1-clause-ranges
returns-in-1-clause-ranges c = c.polygon.ensures.ranges c.args.height

pub returns-in-2-clause-ranges : goal.returns-in-2-clause-ranges
returns-in-2-clause-ranges c = c.line.ensures.ranges c.args.height

pub returns-in-3-clause-ranges : goal.returns-in-3-clause-ranges
returns-in-3-clause-ranges c = c.rectangle.ensures.ranges c.args.height

pub returns-in-7-clause-ranges : goal.returns-in-7-clause-ranges
returns-in-7-clause-ranges c = c.decode_environment.ensures.ranges c.args.height
