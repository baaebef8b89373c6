use Rattle.std.proofs.Common.{ℕ, ◌≡◌, ◌<◌, ◌+◌, ◌*◌, get_or, ap, ◌∙◌, arith}
use Rattle.span_lanes.specs.Shade.{flat_pixel, dither_of}
use Rattle.span_lanes.specs.Paints.{paint_color}
use Rattle.span_lanes.specs.Chunks.Lanes.{DoesFor}
use Rattle.vram_store.proofs.Ones.{ones}
use Rattle.span_lanes.proofs.BackLemmas.{flat_back}
use Rattle.span_lanes.proofs.UntexturedLemmas.{shade_toned, toned_is, toned_lane}
use Rattle.span_lanes.proofs.chunks.untextured.untextured_lanes.Goals as goal

pub returns-clause-lanes : goal.returns-clause-lanes
returns-clause-lanes g c = record {
  lane = λ j lt.
      let span = c.args.chunk.now.span.now in
      let in_lanes : j < 16 = omega arith in
      let x : ℕ = span.x + c.args.chunk.now.first + j in
      let same_x : span.x + (c.args.chunk.now.first + j) ≡ x = omega arith in
      let place : 1024 * span.y + (span.x + c.args.chunk.now.first + j)
      ≡ 1024 * span.y + (span.x + c.args.chunk.now.first) + j = omega arith in
      let cell : ℕ = get_or c.args.vram.now (1024 * span.y + (span.x + c.args.chunk.now.first) + j) 0 in
      let back : DoesFor span.brush cell (get_or c.back_of-back.result j 0) = c.back_of-back.ensures.value j lt in
      let here : get_or c.args.vram.now (1024 * span.y + (span.x + c.args.chunk.now.first + j)) 0
      ≡ cell = ap (λ (k : ℕ). get_or c.args.vram.now k 0) place in
      let color : ℕ = paint_color span.paint x span.y in
      toned_lane span.brush cell _ _ _ _ _ _
      (shade_toned span (c.args.chunk.now.first + j) x c.args.vram.now c.requires.untextured (omega arith)
      ∙ ap (flat_pixel span.brush color (dither_of span.brush.dither x span.y)) here
      ∙ flat_back span.brush color (dither_of span.brush.dither x span.y) cell _ back
      ∙ toned_is span.brush color _ _ _ _ (c.requires.tones.value j lt)
      (c.blend_lanes_if-plotted.ensures.value j in_lanes) (c.blend_lanes_if-plotted.ensures.low j in_lanes))
      back (ones j in_lanes) (c.force_lanes.ensures.value j in_lanes) (c.over_lanes.ensures.value j in_lanes);
}
