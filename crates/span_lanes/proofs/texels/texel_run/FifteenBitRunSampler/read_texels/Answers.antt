use Rattle.std.proofs.Common.{◌≡◌, ℕ, ◌+◌, ◌*◌, get_or, ◌∙◌, ap, arith}
use Rattle.span_lanes.proofs.TexelRunLemmas.{whole_texel}
use Rattle.span_lanes.proofs.texels.texel_run.FifteenBitRunSampler.read_texels.Goals as goal

pub returns-clause-texels : goal.returns-clause-texels
returns-clause-texels g c = record {
  long = c.load16.ensures.lanes.count;
  value = λ j lt.
      let s = c.args.self.now.texel_run in
      let place : 1024 * s.y + (c.args.texture.now.page.x + s.u + c.args.chunk.now.first) + j
      ≡ 1024 * s.y + (c.args.texture.now.page.x + (s.u + (c.args.chunk.now.first + j))) = omega arith in
      whole_texel c.args.chunk.now.span.now c.args.texture.now s _ (c.args.chunk.now.first + j) _ c.args.vram.now
      c.requires.finds.0
      c.requires.finds.1 (omega arith) (omega arith)
      (c.load16.ensures.lanes.cells j lt ∙ ap (λ (k : ℕ). get_or c.args.vram.now k 0) place);
}

pub load16-requires-clause-in_height : goal.load16-requires-clause-in_height
load16-requires-clause-in_height g c =
    let page = rw c.requires.sample.texture at c.requires.sample.can.lies.page in
    omega (arith, page, c.requires.finds.0.low)
