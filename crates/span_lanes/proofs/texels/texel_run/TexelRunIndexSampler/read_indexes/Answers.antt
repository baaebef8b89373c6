use Rattle.std.proofs.Common.{ℕ, ◌≡◌, ◌<◌, ◌+◌, ap, arith}
use Rattle.texture_page.specs.Page.{clut_place}
use Rattle.texel_lanes.specs.Texture.{at_cell}
use Rattle.span_lanes.proofs.TexelRunLemmas.{four_texel}
use Rattle.span_lanes.proofs.texels.texel_run.TexelRunIndexSampler.read_indexes.Goals as goal

pub sixteen_indexes-requires : goal.sixteen_indexes-requires
sixteen_indexes-requires g c =
    let room = c.requires.finds.fours c.requires.depth in
    let page = rw c.requires.sample.texture at c.requires.sample.can.lies.page in
    record { in_page = omega arith; in_row = omega (arith, room); in_height = omega (arith, page) }

pub returns-clause-indexes : goal.returns-clause-indexes
returns-clause-indexes g c = record {
  bytes = c.sixteen_indexes.ensures.bytes;
  low = c.sixteen_indexes.ensures.low;
  entry = λ j lt.
      let lane : j < 16 = omega arith in
      let s = c.args.self.now in
      let chunk = c.args.chunk.now in
      let column : s.u + chunk.first + j ≡ s.u + (chunk.first + j) = omega arith in
      let position = rw column at (c.sixteen_indexes.ensures.value j lane) in
      four_texel c.args.chunk.now.span.now c.args.texture.now s _ (chunk.first + j) _ c.args.vram.now c.requires.finds
      c.requires.depth (omega arith) (omega arith)
      (ap (λ (i : ℕ). at_cell c.args.vram.now (clut_place c.args.texture.now.clut i)) position);
}
