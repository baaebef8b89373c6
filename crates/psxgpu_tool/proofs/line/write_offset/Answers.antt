use Rattle.psxgpu_tool.specs.Line.{offset_line}
use Rattle.psxgpu_tool.proofs.line.write_offset.Goals as goal

pub returns : goal.returns
unfolding offset_line
returns g c = rw (← c.decimal_text-n.ensures.text, ← c.decimal_text-b.ensures.text) c.write_pieces.ensures
