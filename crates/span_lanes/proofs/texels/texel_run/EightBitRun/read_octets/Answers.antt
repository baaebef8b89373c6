use Rattle.std.proofs.Common.{◌≡◌, ◌<◌, ◌+◌, ℕ, ap, arith}
use Rattle.texture_page.specs.Page.{clut_place}
use Rattle.texel_lanes.specs.Texture.{at_cell}
use Rattle.span_lanes.proofs.TexelRunLemmas.{eight_texel}
use Rattle.span_lanes.proofs.texels.texel_run.EightBitRun.read_octets.Goals as goal

pub sixteen_octets-requires : goal.sixteen_octets-requires
sixteen_octets-requires g c =
    let room = c.requires.finds.eights c.requires.depth in
    let page = rw c.requires.sample.texture at c.requires.sample.can.lies.page in
    record {
      in_page = omega arith;
      in_row = omega (arith, room);
      in_height = omega (arith, page, c.requires.finds.low);
    }

pub returns-clause-indexes : goal.returns-clause-indexes
returns-clause-indexes g c = record {
  bytes = record { long = c.sixteen_octets.ensures.long; low = c.sixteen_octets.ensures.low };
  low = c.sixteen_octets.ensures.low;
  entry = λ j lt.
      let lane : j < 16 = omega arith in
      let s = c.args.self.now.texel_run in
      let chunk = c.args.chunk.now in
      let column : s.u + chunk.first + j ≡ s.u + (chunk.first + j) = omega arith in
      let position = rw column at (c.sixteen_octets.ensures.value j lane) in
      eight_texel c.args.chunk.now.span.now c.args.texture.now s _ (chunk.first + j) _ c.args.vram.now c.requires.finds
      c.requires.depth (omega arith) (omega arith)
      (ap (λ (i : ℕ). at_cell c.args.vram.now (clut_place c.args.texture.now.clut i)) position);
}
