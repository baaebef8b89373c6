use Rattle.std.proofs.Common.{refl}
use Rattle.span_lanes.specs.TexelRows.{texel_span}
use Rattle.span_lanes.proofs.TexelRunLemmas.{rising_stretch, row_rising}
use Rattle.span_lanes.proofs.rows.texel_rows.TexelRows.texel_run.Goals as goal

pub returns : goal.returns
returns c y =
    let rows = c.args.self.now in
    let t = rows.texture in
    let is = c.requires.keeps in
    let span = texel_span rows y c.args.v in
    rising_stretch span t rows.u c.args.v _
    (row_rising span t rows.color rows.u c.args.v rows.flip refl is.rises) is.clear c.run_at_coords.ensures.column
    c.run_at_coords.ensures.row c.run_at_coords.ensures.low is.in_page
    is.wholes is.eights is.fours
