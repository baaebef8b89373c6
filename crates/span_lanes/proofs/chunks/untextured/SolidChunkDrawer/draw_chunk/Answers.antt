use Rattle.std.proofs.Common.{arith}
use Rattle.vram_store.proofs.ChunkLaw.{chunk_law}
use Rattle.span_lanes.proofs.CostLemmas.{chunk_step}
use Rattle.span_lanes.proofs.ChunkDrawLemmas.{draw_stays}
use Rattle.span_lanes.proofs.SolidLemmas.{solid_blind, solid_lanes}
use Rattle.span_lanes.proofs.chunks.untextured.SolidChunkDrawer.draw_chunk.Goals as goal

pub returns-clause-drawn : goal.returns-clause-drawn
returns-clause-drawn g c =
    let span = c.args.chunk.now.span.now in
    let chunk = c.args.chunk.now in
    let solid = c.requires.serves.solid in
    let h = c.args.self.now.h in
    record {
      cells = chunk_law _ _ _ _ _ _ (solid_blind span h solid chunk.first _ chunk.k c.args.vram.now)
          (solid_lanes span h solid chunk.first _ chunk.k c.args.vram.now _ c.requires.chunk.few c.splat.ensures.value)
          c.store16.ensures.cells;
      long = c.store16.ensures.long;
      cost = omega (arith, c.store16.ensures.cost, chunk_step span chunk.first chunk.k c.requires.chunk.some);
    }

pub returns-clause-serves : goal.returns-clause-serves
returns-clause-serves g c = record {
  can = draw_stays c.requires.serves.can c.store16.ensures.long;
  solid = c.requires.serves.solid;
}
