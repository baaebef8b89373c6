use Rattle.std.proofs.Common.{◌<◌, arith}
use Rattle.texel_lanes.proofs.TexelLemmas.{texel_eight}
use Rattle.texel_lanes.proofs.read.read_eights.Goals as goal

pub returns-clause-value : goal.returns-clause-value
returns-clause-value g c = λ j lt.
    let lane : j < 16 = omega arith in
    let places = c.texel_cells_of-places.ensures in
    let index = c.octets-index.ensures.value j lane in
    texel_eight c.args.texture.now _ _ c.args.vram.now _ _ _ c.requires.depth (places.across j lane)
    (rw (places.column j lane, places.row j lane) at (c.halfwords_of-halfwords.ensures.value j lt))
    (rw index at (c.gather_entries.ensures.value j lt))
