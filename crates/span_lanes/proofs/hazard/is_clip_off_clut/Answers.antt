use Rattle.std.proofs.Common.{sym, ◌∙◌}
use Rattle.span_lanes.proofs.hazard.is_clip_off_clut.Goals as goal

pub returns-in-Some : goal.returns-in-Some
returns-in-Some c off x y n within =
    rw (sym c.clut_of.ensures.value ∙ c.in-Some.is) (c.is_clip_off_strip.ensures off x y n within)
