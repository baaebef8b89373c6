use Rattle.blend_dither.proofs.SumLemmas.{sum_joined, low_packed}
use Rattle.blend_dither.proofs.sum.sum_lanes.Goals as goal

pub returns-clause-value : goal.returns-clause-value
returns-clause-value c i lt =
    let low = c.requires.low i lt in
    sum_joined _ _ _ _ _ _ _ _ _ _ _ _ _ _ low.0 low.1 (c.add-sum.ensures.value i lt) (c.xor.ensures.value i lt)
    (c.low_ones.ensures.value i lt) (c.sub_or_zero-even.ensures.value i lt) (c.shifted_down.ensures.value i lt)
    (c.low_ones-full.ensures.value i lt) (c.splat.ensures.value i lt) (c.mul.ensures.value i lt)
    (c.sub_or_zero.ensures.value i lt) (c.splat-2.ensures.value i lt) (c.mul-2.ensures.value i lt)
    (c.or.ensures.value i lt)

pub returns-clause-low : goal.returns-clause-low
returns-clause-low c i lt = low_packed _ _ _ _ (returns-clause-value c i lt)
