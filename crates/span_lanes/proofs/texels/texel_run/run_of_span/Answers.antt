use Rattle.span_lanes.proofs.TexelRunLemmas.{rising_stretch}
use Rattle.span_lanes.proofs.texels.texel_run.run_of_span.Goals as goal

pub returns-then-does_not_wrap : goal.returns-then-does_not_wrap
returns-then-does_not_wrap c =
    rising_stretch c.args.span.now c.args.texture.now c.args.u c.args.v _ c.requires.rising
    (c.is_unwindowed.ensures.open c.if-is_unwindowed.true)
    c.run_at_coords.ensures.column c.run_at_coords.ensures.row c.run_at_coords.ensures.low
    (c.is_unwindowed.ensures.in_page c.if-is_unwindowed.true) (c.does_not_wrap.ensures.wholes c.if-does_not_wrap.true)
    (c.does_not_wrap.ensures.eights c.if-does_not_wrap.true) (c.does_not_wrap.ensures.fours c.if-does_not_wrap.true)
