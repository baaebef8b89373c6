use Rattle.span_lanes.proofs.GuardLemmas.{lanes_same}
use Rattle.span_lanes.proofs.hazard.reads_itself.Goals as goal

pub returns-clause-pairs : goal.returns-clause-pairs
returns-clause-pairs c =
    let at = c.args.at.now in
    let places = c.texel_cells_of-places in
    let cells = lanes_same c.args.texture.now at.us at.vs places.result.xs places.result.ys c.args.k c.requires.few
    places.ensures.column places.ensures.row in
    rw (cells, c.clut_of.ensures.value) at c.lanes_hazard.ensures.pairs

pub returns-clause-value : goal.returns-clause-value
returns-clause-value c =
    let at = c.args.at.now in
    let places = c.texel_cells_of-places in
    let cells = lanes_same c.args.texture.now at.us at.vs places.result.xs places.result.ys c.args.k c.requires.few
    places.ensures.column places.ensures.row in
    rw (cells, c.clut_of.ensures.value) at c.lanes_hazard.ensures.value
