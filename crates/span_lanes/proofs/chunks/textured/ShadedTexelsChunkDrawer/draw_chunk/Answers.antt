use Rattle.std.proofs.Common.{arith}
use Rattle.span_lanes.proofs.PlanLemmas.{apart_cost}
use Rattle.span_lanes.proofs.ChunkDrawLemmas.{sample_stays}
use Rattle.span_lanes.proofs.chunks.textured.ShadedTexelsChunkDrawer.draw_chunk.Goals as goal

pub draw_shaded-requires-clause-free : goal.draw_shaded-requires-clause-free
draw_shaded-requires-clause-free g c =
    let is = c.requires.chunk in
    c.requires.serves.0.hazard_free.free c.args.chunk.now.first c.args.chunk.now.k is.cut is.few is.within

pub returns-clause-drawn : goal.returns-clause-drawn
returns-clause-drawn g c =
    let chunk = c.args.chunk.now in
    let is = c.requires.serves.0 in
    let cost = apart_cost chunk c.args.self.now.texture c.requires.chunk is.hazard_free is.sample.texture in
    record {
      cells = c.draw_shaded.ensures.cells;
      long = c.draw_shaded.ensures.others.count;
      cost = omega (arith, cost, c.read_texels-texels.ensures.cost, c.draw_shaded.ensures.cost);
    }

pub returns-clause-serves : goal.returns-clause-serves
returns-clause-serves g c =
    let is = c.requires.serves.0 in
    let long = c.draw_shaded.ensures.others.count in (
      record { sample = sample_stays is.sample long; hazard_free = is.hazard_free; finds = is.finds },
      c.requires.serves.1,
    )
