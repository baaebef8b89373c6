use Rattle.std.proofs.Common.{get_or, pos}
use Rattle.blend_dither.proofs.BiasLemmas.{at_again}
use Rattle.blend_dither.proofs.Offsets.{tone_joined}
use Rattle.blend_dither.proofs.wide.tone_lanes.Goals as goal

pub biased-bias-requires-clause-small : goal.biased-bias-requires-clause-small
biased-bias-requires-clause-small c i lt = rw (at_again c.args.shifts c.requires.long.3 c.requires.shifts i lt)
    (c.requires.shifts i lt)

pub returns-clause-value : goal.returns-clause-value
returns-clause-value c i lt =
    let bias = rw (at_again c.args.shifts c.requires.long.3 c.requires.shifts i lt) at
    (c.biased-bias.ensures.value i lt) in
    tone_joined _ _ _ _ (get_or c.args.shifts i (pos 0)) _ _ _ _ bias (c.shifted_lanes.ensures.value i lt)
    (c.shifted_lanes-2.ensures.value i lt) (c.shifted_lanes-3.ensures.value i lt) (c.pack_lanes.ensures.value i lt)
