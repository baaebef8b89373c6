use Rattle.span_lanes.proofs.TexelRunLemmas.{row_rising}
use Rattle.span_lanes.proofs.texels.texel_run.rectangle_row_run.Goals as goal

pub run_of_span-requires-clause-texture : goal.run_of_span-requires-clause-texture
run_of_span-requires-clause-texture c = rw c.requires.paint at c.requires.span.texture

pub run_of_span-requires-clause-rising : goal.run_of_span-requires-clause-rising
run_of_span-requires-clause-rising c =
    let row = c.args.row.now in
    row_rising c.args.span.now row.texture row.color row.u row.v row.flip c.requires.paint c.if-row.false
