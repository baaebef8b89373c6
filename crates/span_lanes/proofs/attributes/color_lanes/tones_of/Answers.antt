use Rattle.std.proofs.Common.{ap, ◌∙◌, slice_index}
use Rattle.blend_dither.specs.Color.{tone_of}
use Rattle.span_lanes.proofs.ColorLemmas.{read_back}
use Rattle.span_lanes.proofs.attributes.color_lanes.tones_of.Goals as goal

pub tone_lanes-requires-clause-shifts : goal.tone_lanes-requires-clause-shifts
tone_lanes-requires-clause-shifts c i lt =
    let is = c.requires.dither_lanes in
    rw (read_back c.args.dither_lanes.lanes is.long is.small i lt) (is.small i lt)

pub returns-clause-value : goal.returns-clause-value
returns-clause-value c = λ i lt.
    let is = c.requires.dither_lanes in
    let colors = c.args.colors in
    c.tone_lanes.ensures.value i lt
    ∙ ap (tone_of (slice_index colors.red i) (slice_index colors.green i) (slice_index colors.blue i))
    (read_back c.args.dither_lanes.lanes is.long is.small i lt)
