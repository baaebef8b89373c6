use Rattle.std.proofs.Common.{◌<◌, ◌∙◌, refl, arith}
use Rattle.texel_lanes.proofs.TexelLemmas.{texel_direct}
use Rattle.texel_lanes.proofs.read.read_scattered.Goals as goal

pub returns-clause-value : goal.returns-clause-value
returns-clause-value g c = λ j lt.
    let lane : j < 16 = omega arith in
    let places = c.texel_cells_of-places.ensures in
    (rw (places.column j lane, places.row j lane) at (c.halfwords_of.ensures.value j lt))
    ∙ texel_direct c.args.texture.now _ _ c.args.vram.now _ c.requires.depth refl
