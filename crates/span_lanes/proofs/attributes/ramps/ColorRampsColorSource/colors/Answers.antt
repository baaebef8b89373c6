use Rattle.span_lanes.proofs.AttributeRampLemmas.{colors_of}
use Rattle.span_lanes.proofs.attributes.ramps.ColorRampsColorSource.colors.Goals as goal

pub returns : goal.returns
returns c =
    let red = c.lanes.ensures in
    let green = c.lanes-2.ensures in
    let blue = c.lanes-3.ensures in
    colors_of c.args.chunk.now c.args.self.now (record { red = _; green = _; blue = _ }) c.requires.span
    c.requires.chunk c.requires.suits (record { long = red.long; bytes = red.bytes })
    (record { long = green.long; bytes = green.bytes }) (record { long = blue.long; bytes = blue.bytes })
    red.value green.value blue.value
