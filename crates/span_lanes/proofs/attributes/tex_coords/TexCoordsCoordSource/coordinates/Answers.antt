use Rattle.span_lanes.proofs.PlanLemmas.{coordinates_here}
use Rattle.span_lanes.proofs.attributes.tex_coords.TexCoordsCoordSource.coordinates.Goals as goal

pub returns : goal.returns
returns c =
    let span = c.args.chunk.now.span.now in
    let chunk = c.args.chunk.now in
    let at = c.tex_coord_lanes.ensures in
    coordinates_here span.paint span.x span.y span.n chunk.first chunk.k c.args.self.now _ _ c.requires.places
    c.requires.chunk.within c.requires.chunk.few at.across at.down at.u at.v
