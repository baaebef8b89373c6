use Rattle.std.proofs.Common.{refl}
use Rattle.span_lanes.proofs.ColorLemmas.{row_long, row_read}
use Rattle.span_lanes.proofs.attributes.color_lanes.dither_row.Goals as goal

pub returns-clause-long : goal.returns-clause-long
returns-clause-long c = row_long _ refl c.args.place c.requires

pub returns-clause-value : goal.returns-clause-value
returns-clause-value c i lt = row_read _ refl c.args.place i c.requires lt
