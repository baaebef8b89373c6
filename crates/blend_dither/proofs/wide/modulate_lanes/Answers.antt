use Rattle.std.proofs.Common.{◌%◌, ◌∙◌, get_or, pos, ap, ℕ}
use Rattle.blend_dither.proofs.BiasLemmas.{at_again}
use Rattle.blend_dither.proofs.Offsets.{modulated_joined}
use Rattle.blend_dither.proofs.wide.modulate_lanes.Goals as goal

pub biased-bias-requires-clause-small : goal.biased-bias-requires-clause-small
biased-bias-requires-clause-small c i lt = rw (at_again c.args.shifts c.requires.long.4 c.requires.shifts i lt)
    (c.requires.shifts i lt)

pub returns-clause-value : goal.returns-clause-value
returns-clause-value c i lt =
    let bias = rw (at_again c.args.shifts c.requires.long.4 c.requires.shifts i lt) at
    (c.biased-bias.ensures.value i lt) in
    let low : ℕ → ℕ = λ n. n % 32 in
    modulated_joined _ _ _ _ _ _ _ (get_or c.args.shifts i (pos 0)) _ _ _ _ (get_or c.args.texels i 0) bias
    (c.modulated_lanes.ensures.value i lt) (c.modulated_lanes-2.ensures.value i lt)
    (c.modulated_lanes-3.ensures.value i lt)
    (c.low5.ensures.value i lt)
    (c.low5-2.ensures.value i lt ∙ ap low (c.shifted_down.ensures.value i lt))
    (c.low5-3.ensures.value i lt ∙ ap low (c.shifted_down-2.ensures.value i lt))
    (c.pack_lanes.ensures.value i lt)
