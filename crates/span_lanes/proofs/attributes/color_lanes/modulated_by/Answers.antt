use Rattle.std.proofs.Common.{ap, ◌∙◌, slice_index}
use Rattle.blend_dither.specs.Color.{modulated_of}
use Rattle.span_lanes.proofs.ColorLemmas.{read_back}
use Rattle.span_lanes.proofs.attributes.color_lanes.modulated_by.Goals as goal

pub modulate_lanes-requires-clause-shifts : goal.modulate_lanes-requires-clause-shifts
modulate_lanes-requires-clause-shifts c i lt =
    let is = c.requires.dither_lanes in
    rw (read_back c.args.dither_lanes.lanes is.long is.small i lt) (is.small i lt)

pub returns-clause-value : goal.returns-clause-value
returns-clause-value c = λ i lt.
    let is = c.requires.dither_lanes in
    let colors = c.args.colors in
    c.modulate_lanes.ensures.value i lt
    ∙ ap (modulated_of (slice_index c.args.texels i) (slice_index colors.red i) (slice_index colors.green i)
    (slice_index colors.blue i)) (read_back c.args.dither_lanes.lanes is.long is.small i lt)
