use Rattle.std.proofs.Common.{◌<◌, refl, arith}
use Rattle.span_lanes.specs.Shade.{dither_of, modulated_texel}
use Rattle.span_lanes.proofs.chunks.textured.undithered_texels.Goals as goal
use Rattle.span_lanes.proofs.chunks.textured.undithered_texels.Goals.{then-texture, else-texture}

pub returns-clause-modulated : goal.returns-clause-modulated
unfolding dither_of modulated_texel
returns-clause-modulated g c j lt = elim c.if-texture.branch [
  | then-texture w ↦ rw (w.result-is, w.if-texture.true) refl
  | else-texture w ↦
      let lane : j < 16 = omega (arith, c.requires.chunk.few) in
      let colors = w.colors.ensures in
      let value = w.undithered_by.ensures.value j lane in
      rw (c.requires.even, w.result-is, w.if-texture.false, colors.red j lt, colors.green j lt, colors.blue j lt) value
]
