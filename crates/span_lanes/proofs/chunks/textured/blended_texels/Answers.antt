use Rattle.std.proofs.Common.{ℕ, ℤ, ◌≡◌, ◌<◌, ◌+◌, ◌*◌, ◌&&◌, not, get_or, sym, ap, ◌∙◌, arith}
use Rattle.vram_store.proofs.Ones.{ones}
use Rattle.texel_lanes.specs.Texture.{texel}
use Rattle.span_lanes.specs.Shade.{textured_pixel, dither_of}
use Rattle.span_lanes.specs.Paints.{paint_color, paint_u, paint_v}
use Rattle.span_lanes.proofs.TexelLemmas.{raw_front, shade_textured, textured_lane}
use Rattle.span_lanes.proofs.chunks.textured.blended_texels.Goals as goal

pub returns-clause-lanes : goal.returns-clause-lanes
returns-clause-lanes g c = record {
  lane = λ j lt.
      let span = c.args.chunk.now.span.now in
      let t = c.args.texture.now in
      let in_lanes : j < 16 = omega arith in
      let x : ℕ = span.x + c.args.chunk.now.first + j in
      let i : ℕ = c.args.chunk.now.first + j in
      let place : 1024 * span.y + (span.x + c.args.chunk.now.first + j)
      ≡ 1024 * span.y + (span.x + c.args.chunk.now.first) + j = omega arith in
      let cell : ℕ = get_or c.args.vram.now (1024 * span.y + (span.x + c.args.chunk.now.first) + j) 0 in
      let back : get_or c.load16-back.result j 0 ≡ cell = c.load16-back.ensures.lanes.cells j lt in
      let same = c.requires.drawn.texels.value j lt in
      let color : ℕ = paint_color span.paint x span.y in
      let shift : ℤ = dither_of (span.brush.dither && not t.raw) x span.y in
      let u : ℕ = paint_u span.paint x span.y i in
      let v : ℕ = paint_v span.paint x span.y i in
      textured_lane span.brush.mask cell _ span.brush t.raw color shift _ _ _ _ _
      (shade_textured span t i x c.args.vram.now c.requires.sample.texture (omega arith)
      ∙ ap (λ (p : ℕ). textured_pixel span.brush t.raw color shift (get_or c.args.vram.now p 0) (texel t u v
      c.args.vram.now))
      place
      ∙ ap (λ (h : ℕ). textured_pixel span.brush t.raw color shift cell h) (sym same))
      (c.requires.drawn.front j lt)
      (rw back at (c.blended_of_texels-plotted.ensures.value j lt))
      (ones j in_lanes)
      (rw back at (c.drawn_over.ensures.value j in_lanes));
}

pub blended_of_texels-plotted-requires-clause-raw : goal.blended_of_texels-plotted-requires-clause-raw
blended_of_texels-plotted-requires-clause-raw g c raw j lt =
    raw_front c.args.texture.now.raw _ _ (get_or c.args.drawn.texels j 0) (get_or c.args.drawn.modulated j 0) raw
    (c.requires.drawn.front j lt)
