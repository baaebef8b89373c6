use Rattle.texel_lanes.proofs.ContiguousLemmas.{beside_index}
use Rattle.texel_lanes.proofs.contiguous.contiguous_indexes.Goals as goal

pub sixteen_indexes-requires-clause-in_row : goal.sixteen_indexes-requires-clause-in_row
sixteen_indexes-requires-clause-in_row g c = rw c.requires.depth at c.requires.beside.in_row

pub returns-clause-indexes : goal.returns-clause-indexes
returns-clause-indexes g c = record {
  bytes = c.sixteen_indexes.ensures.bytes;
  low = c.sixteen_indexes.ensures.low;
  value = λ j lane.
      beside_index c.args.texture.now c.args.at.now j _ c.args.vram.now c.requires.depth c.requires.beside
      (c.requires.readable.us.bytes j lane) (c.requires.readable.vs.bytes j lane) lane
      (c.sixteen_indexes.ensures.value j lane);
}
