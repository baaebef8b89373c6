use Rattle.std.proofs.Common.{refl, arith}
use Rattle.span_lanes.specs.Shade.{modulated_texel}
use Rattle.span_lanes.proofs.clut.modulated.modulated_entries.Goals as goal
use Rattle.span_lanes.proofs.clut.modulated.modulated_entries.Goals.{then-raw, else-raw}

pub returns-clause-value : goal.returns-clause-value
unfolding modulated_texel
returns-clause-value c j lane = elim c.if-raw.branch [
  | then-raw w ↦ rw (w.result-is, w.if-raw.true) refl
  | else-raw w ↦
      let colors = w.one_color.ensures 16 (omega arith) in
      let value = w.undithered_by.ensures.value j lane in
      rw (w.result-is, w.if-raw.false, colors.red j lane, colors.green j lane, colors.blue j lane) value
]
