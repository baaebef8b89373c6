use Rattle.std.proofs.Common.{arith}
use Rattle.span_lanes.proofs.CostLemmas.{toned_cost}
use Rattle.span_lanes.proofs.ChunkDrawLemmas.{draw_stays}
use Rattle.span_lanes.proofs.chunks.untextured.FlatCellsChunkDrawer.draw_chunk.Goals as goal

pub store_chunk-requires-clause-free : goal.store_chunk-requires-clause-free
store_chunk-requires-clause-free g c = λ h. rw c.requires.serves.span.untextured at h

pub returns-clause-drawn : goal.returns-clause-drawn
returns-clause-drawn g c = record {
  cells = c.store_chunk.ensures.cells;
  long = c.store_chunk.ensures.others.count;
  cost = omega (
    arith,
    toned_cost c.args.chunk.now.span.now c.args.chunk.now.first c.args.chunk.now.k c.requires.serves.span.untextured,
    c.untextured_lanes-lanes.ensures.cost,
    c.store_chunk.ensures.cost,
  );
}

pub returns-clause-serves : goal.returns-clause-serves
returns-clause-serves g c = record {
  span = record {
    can = draw_stays c.requires.serves.span.can c.store_chunk.ensures.others.count;
    untextured = c.requires.serves.span.untextured;
    offsets = c.requires.serves.span.offsets;
  };
  colors = c.requires.serves.colors;
}
