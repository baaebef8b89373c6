use Rattle.std.proofs.Common.{◌<◌, arith}
use Rattle.texel_lanes.proofs.contiguous.scattered_indexes.Goals as goal

pub returns-clause-indexes : goal.returns-clause-indexes
returns-clause-indexes g c = record {
  bytes = c.nibbles.ensures.bytes;
  low = c.nibbles.ensures.low;
  value = λ j lt.
      let lane : j < 16 = omega arith in
      let places = c.texel_cells_of-places.ensures in
      let halfword = rw (places.column j lane, places.row j lane) at (c.halfwords_of-halfwords.ensures.value j lt) in
      rw (places.across j lane, halfword) at (c.nibbles.ensures.value j lane);
}
