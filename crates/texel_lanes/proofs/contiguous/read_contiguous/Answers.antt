use Rattle.std.proofs.Common.{◌<◌, arith}
use Rattle.texel_lanes.proofs.ContiguousLemmas.{beside_room, beside_texel}
use Rattle.texel_lanes.proofs.contiguous.read_contiguous.Goals as goal

pub load16-requires-clause-in_row : goal.load16-requires-clause-in_row
load16-requires-clause-in_row g c =
    let room = beside_room c.args.texture.now c.args.at.now c.requires.depth c.requires.beside in
    omega (arith, room)

pub returns-clause-value : goal.returns-clause-value
returns-clause-value g c = λ j lt.
    let lane : j < 16 = omega arith in
    beside_texel c.args.texture.now c.args.at.now j _ c.args.vram.now c.requires.depth c.requires.beside
    (c.requires.readable.us.bytes j lane) (c.requires.readable.vs.bytes j lane) lane (c.load16.ensures.lanes.cells j lt)
