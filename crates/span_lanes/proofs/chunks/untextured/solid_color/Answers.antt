use Rattle.std.proofs.Common.{sym, refl, ◌∙◌}
use Rattle.span_lanes.proofs.SolidLemmas.{solid_flat}
use Rattle.span_lanes.proofs.chunks.untextured.solid_color.Goals as goal

pub returns-then-is_even : goal.returns-then-is_even
returns-then-is_even c x y n =
    solid_flat _ c.args.color c.tone.result c.force.result refl
    (sym c.is_even.ensures ∙ c.if-is_even.true) c.tone.ensures.value c.tone.ensures.low c.force.ensures
