use Rattle.psxgpu_tool.specs.Line.{too_long_line}
use Rattle.psxgpu_tool.proofs.line.write_too_long.Goals as goal

pub returns : goal.returns
unfolding too_long_line
returns g c = rw (← c.decimal_text-n.ensures.text, ← c.decimal_text-w.ensures.text) c.write_pieces.ensures
