use Rattle.span_lanes.proofs.PlanLemmas.{texels_here}
use Rattle.span_lanes.proofs.texels.sampler.many_texels.Goals as goal

pub read_texels-requires : goal.read_texels-requires
read_texels-requires g c = record {
  texture = rw c.requires.sample.texture at c.requires.sample.can.span.texture;
  page = rw c.requires.sample.texture at c.requires.sample.can.lies.page;
  us = c.coordinates-at.ensures.across;
  vs = c.coordinates-at.ensures.down;
  some = c.requires.chunk.some;
  few = c.requires.chunk.few;
}

pub returns-clause-texels : goal.returns-clause-texels
returns-clause-texels g c =
    texels_here c.args.chunk.now c.args.texture.now _ _ c.args.vram.now _
    c.coordinates-at.ensures c.read_texels.ensures.long c.read_texels.ensures.value
