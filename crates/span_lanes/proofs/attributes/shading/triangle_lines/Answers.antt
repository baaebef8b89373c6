use Rattle.std.proofs.Common.{refl}
use Rattle.span_lanes.specs.Shade.{color_in}
use Rattle.span_lanes.proofs.attributes.shading.triangle_lines.Goals as goal

pub returns : goal.returns
unfolding color_in
returns c tri is inside at j lane lt =
    let red = c.line_of.ensures tri 0 is.0 inside at j lane lt in
    let green = c.line_of-2.ensures tri 1 is.1 inside at j lane lt in
    let blue = c.line_of-3.ensures tri 2 is.2 inside at j lane lt in
    rw (red, green, blue) refl
