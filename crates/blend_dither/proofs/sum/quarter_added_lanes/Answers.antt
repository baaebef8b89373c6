use Rattle.blend_dither.proofs.SumLemmas.{quarter_added_is}
use Rattle.blend_dither.proofs.sum.quarter_added_lanes.Goals as goal

pub returns-clause-value : goal.returns-clause-value
returns-clause-value c i lt = quarter_added_is _ _ _ _ _ _ (c.low_bits.ensures.value i lt)
    (c.low_bits-2.ensures.value i lt) (c.quarters.ensures.value i lt) (c.sum_lanes.ensures.value i lt)
