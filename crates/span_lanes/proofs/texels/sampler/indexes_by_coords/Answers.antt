use Rattle.std.proofs.Common.{ℕ, refl, ap}
use Rattle.texture_page.specs.Page.{clut_place}
use Rattle.texel_lanes.specs.Texture.{at_cell}
use Rattle.texel_lanes.proofs.TexelLemmas.{texel_four}
use Rattle.span_lanes.proofs.texels.sampler.indexes_by_coords.Goals as goal

pub indexes_of-requires-clause-readable : goal.indexes_of-requires-clause-readable
indexes_of-requires-clause-readable g c = record {
  texture = rw c.requires.can.sample.texture at c.requires.can.sample.can.span.texture;
  page = rw c.requires.can.sample.texture at c.requires.can.sample.can.lies.page;
  us = c.coordinates-at.ensures.across;
  vs = c.coordinates-at.ensures.down;
  some = c.requires.can.chunk.some;
  few = c.requires.can.chunk.few;
}

pub returns-clause-indexes : goal.returns-clause-indexes
returns-clause-indexes g c =
    let at = c.coordinates-at.ensures in
    let index = c.indexes_of.ensures.indexes in
    record {
      bytes = index.bytes;
      low = index.low;
      entry = λ j lt. rw (at.u j lt, at.v j lt) at
          (texel_four c.args.texture.now _ _ c.args.vram.now _ _ _ c.requires.depth refl refl
          (ap (λ (i : ℕ). at_cell c.args.vram.now (clut_place c.args.texture.now.clut i)) (index.value j lt)));
    }
