use Rattle.std.proofs.Common.{w32, arith}
use Rattle.std.proofs.lemmas.Int.{to_z_pos}
use Rattle.span_lanes.proofs.attributes.shading.line_of.Goals as goal

pub returns : goal.returns
returns c tri which plane inside at j lane lt =
    let across = to_z_pos w32 c.args.x (omega arith) in
    let down = to_z_pos w32 c.args.y (omega arith) in
    let line = rw (across, down) at (c.row_line.ensures tri which plane) in
    line inside at j lane lt
