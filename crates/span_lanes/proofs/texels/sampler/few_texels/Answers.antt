use Rattle.span_lanes.proofs.PlanLemmas.{texels_here}
use Rattle.span_lanes.proofs.texels.sampler.few_texels.Goals as goal

pub read_few-requires-clause-readable : goal.read_few-requires-clause-readable
read_few-requires-clause-readable g c = record {
  texture = rw c.requires.can.sample.texture at c.requires.can.sample.can.span.texture;
  page = rw c.requires.can.sample.texture at c.requires.can.sample.can.lies.page;
  us = c.coordinates-at.ensures.across;
  vs = c.coordinates-at.ensures.down;
  some = c.requires.can.chunk.some;
  few = c.requires.can.chunk.few;
}

pub returns-clause-texels : goal.returns-clause-texels
returns-clause-texels g c =
    texels_here c.args.chunk.now c.args.texture.now _ _ c.args.vram.now _
    c.coordinates-at.ensures c.read_few.ensures.long c.read_few.ensures.value
