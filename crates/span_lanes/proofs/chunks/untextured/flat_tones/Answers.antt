use Rattle.std.proofs.Common.{ℕ, ◌<◌, ◌+◌, ◌≡◌, ◌∙◌, arith}
use Rattle.span_lanes.proofs.ColorLemmas.{shift_again, no_shift}
use Rattle.span_lanes.proofs.chunks.untextured.flat_tones.Goals as goal

pub returns : goal.returns
returns c = record {
  long = c.flat_lanes.ensures.long;
  low = c.flat_lanes.ensures.low;
  value = λ j lt.
      let span = c.args.chunk.now.span.now in
      let lane : j < 16 = omega (arith, lt, c.requires.chunk.few) in
      let x : ℕ = span.x + c.args.chunk.now.first + j in
      let again = c.requires.offsets.value j lane ∙ shift_again span.brush.dither span.x x span.y j
      (omega (arith, c.requires.chunk.cut)) in
      let same_x : span.x + (c.args.chunk.now.first + j) ≡ x = omega arith in
      let one_color = rw same_x at (c.requires.colors c.args.chunk.now.first j lane
      (omega (arith, lt, c.requires.chunk.within))) in
      rw (← one_color, ← again) (c.flat_lanes.ensures.value j lane);
}

pub flat_lanes-requires-clause-none : goal.flat_lanes-requires-clause-none
flat_lanes-requires-clause-none c none i lt = c.requires.offsets.value i lt
    ∙ no_shift c.args.chunk.now.span.now.brush.dither (c.args.chunk.now.span.now.x + i) c.args.chunk.now.span.now.y none
