use Rattle.std.proofs.Common.{◌<◌, ◌∙◌, refl, arith}
use Rattle.texel_lanes.proofs.TexelLemmas.{texel_four}
use Rattle.texel_lanes.proofs.read.read_fours.Goals as goal

pub returns-clause-value : goal.returns-clause-value
returns-clause-value g c = λ j lt.
    let lane : j < 16 = omega arith in
    let index = c.indexes_of-index.ensures.indexes in
    texel_four c.args.texture.now _ _ c.args.vram.now _ _ _ c.requires.depth refl refl
    (rw (index.value j lt) at
    (c.entries_at.ensures.value j lane ∙ c.table_of.ensures.value _ (index.low j lane)
    ∙ c.sixteen_entries-entries.ensures.value _ (index.low j lane)))
