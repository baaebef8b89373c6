use Rattle.std.proofs.Common.{ap}
use Rattle.span_lanes.specs.Shade.{texture_of}
use Rattle.span_lanes.proofs.HazardFreeLemmas.{chunks_free}
use Rattle.span_lanes.proofs.hazard.is_row_hazard_free.Goals as goal

pub returns-then-reads_other_row : goal.returns-then-reads_other_row
returns-then-reads_other_row c off =
    chunks_free c.args.span.now c.args.row.now.texture c.requires.span (ap texture_of c.requires.paint)
    (c.reads_other_row.ensures c.if-reads_other_row.true) (c.is_off_clut.ensures off)
