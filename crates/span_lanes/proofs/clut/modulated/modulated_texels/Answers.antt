use Rattle.std.proofs.Common.{ℕ, ◌<◌, ◌+◌, ◌&&◌, not, refl, ◌∙◌, arith}
use Rattle.span_lanes.specs.Shade.{modulated_texel}
use Rattle.span_lanes.proofs.ColorLemmas.{shift_again}
use Rattle.span_lanes.proofs.clut.modulated.modulated_texels.Goals as goal
use Rattle.span_lanes.proofs.clut.modulated.modulated_texels.Goals.{then-texture, else-texture}

pub returns-clause-modulated : goal.returns-clause-modulated
unfolding modulated_texel
returns-clause-modulated g c j lt = elim c.if-texture.branch [
  | then-texture w ↦ rw (w.result-is, w.if-texture.true) refl
  | else-texture w ↦
      let span = c.args.chunk.now.span.now in
      let t = c.args.texture.now in
      let lane : j < 16 = omega (arith, c.requires.chunk.few) in
      let x : ℕ = span.x + c.args.chunk.now.first + j in
      let again = c.requires.dither_lanes.value j lane
      ∙ shift_again (span.brush.dither && not t.raw) span.x x span.y j (omega (arith, c.requires.chunk.cut)) in
      let colors = w.colors.ensures in
      let value = rw (again, w.if-texture.false) at (w.modulated_by.ensures.value j lane) in
      rw (w.result-is, w.if-texture.false, colors.red j lt, colors.green j lt, colors.blue j lt) value
]
