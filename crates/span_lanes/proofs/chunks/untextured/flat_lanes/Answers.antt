use Rattle.std.proofs.Common.{◌∙◌, arith}
use Rattle.span_lanes.proofs.chunks.untextured.flat_lanes.Goals as goal
use Rattle.span_lanes.proofs.chunks.untextured.flat_lanes.Goals.{then-dither, else-dither}

pub returns-clause-value : goal.returns-clause-value
returns-clause-value c = λ j lt. elim c.if-dither.branch [
  | then-dither w ↦
      let colors = w.one_color.ensures 16 (omega arith) in
      rw (w.result-is, colors.red j lt, colors.green j lt, colors.blue j lt) (w.tones_of.ensures.value j lt)
  | else-dither w ↦
      rw (w.result-is, c.requires.none w.if-dither.false j lt) (w.splat.ensures.value j lt ∙ w.tone.ensures.value)
]
