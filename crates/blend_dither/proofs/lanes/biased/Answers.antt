use Rattle.blend_dither.proofs.BiasLemmas.{sums_fit, casts_fit, at_biased, biased_low}
use Rattle.blend_dither.proofs.lanes.biased.Goals as goal

pub overflow_add-result : goal.overflow_add-result
overflow_add-result c = sums_fit c.args.shifts c.requires.long c.requires.small

pub overflow_cast-result : goal.overflow_cast-result
overflow_cast-result c = casts_fit c.args.shifts c.requires.long c.requires.small

pub returns-clause-value : goal.returns-clause-value
returns-clause-value c = at_biased c.args.shifts c.requires.long c.requires.small

pub returns-clause-low : goal.returns-clause-low
returns-clause-low c = biased_low c.args.shifts c.requires.long c.requires.small
