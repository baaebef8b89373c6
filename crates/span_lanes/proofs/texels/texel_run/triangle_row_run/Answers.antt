use Rattle.std.proofs.Common.{IsTrue, pos, arith}
use Rattle.edge_walk.specs.Triangle.{is_inside}
use Rattle.span_lanes.specs.Shade.{AreInside}
use Rattle.span_lanes.proofs.TexelRunLemmas.{rising_stretch, tri_in_page, tri_rising}
use Rattle.span_lanes.proofs.ShadingLemmas.{first_cell}
use Rattle.span_lanes.proofs.texels.texel_run.triangle_row_run.Goals as goal

pub returns : goal.returns
returns c =
    let span = c.args.span.now in
    let setup = c.args.setup.now in
    let t = setup.texture in
    let tri = setup.tri in
    let paint = c.requires.setup.paint in
    let coord_planes = c.requires.setup.ready.coord_planes in
    let is = c.requires.contiguous in
    let cells : AreInside tri span.x span.y span.n = rw paint at c.requires.span.inside in
    let first : IsTrue (is_inside tri (pos span.x) (pos span.y)) =
    first_cell tri span.x span.y span.n c.requires.span.some cells in
    let u = c.value_of-u.ensures tri 3 coord_planes.u first in
    let within = tri_in_page span tri t _ paint c.requires.span is.unscaled coord_planes.u in
    rising_stretch span t _ _ _
    (tri_rising span tri t _ _ paint c.requires.span is.unscaled u
    (c.value_of-v.ensures tri 4 coord_planes.v first))
    is.clear c.run_at_coords.ensures.column c.run_at_coords.ensures.row c.run_at_coords.ensures.low
    (omega (arith, u, within))
    (λ deep. omega (arith, u, within, is.room.wholes deep))
    (λ eight. omega (arith, u, within, is.room.eights eight))
    (λ four. omega (arith, u, within, is.room.fours four))
