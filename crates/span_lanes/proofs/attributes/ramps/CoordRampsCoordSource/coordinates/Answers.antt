use Rattle.span_lanes.proofs.AttributeRampLemmas.{coordinates_of}
use Rattle.span_lanes.proofs.attributes.ramps.CoordRampsCoordSource.coordinates.Goals as goal

pub returns : goal.returns
returns c =
    let us = c.lanes.ensures in
    let vs = c.lanes-2.ensures in
    coordinates_of c.args.chunk.now c.args.self.now _ _ c.requires.span c.requires.chunk c.requires.places
    (record { long = us.long; bytes = us.bytes }) (record { long = vs.long; bytes = vs.bytes }) us.value vs.value
