use Rattle.psxgpu_tool.specs.Line.{list_loop_line}
use Rattle.psxgpu_tool.proofs.line.write_list_loop.Goals as goal

pub returns : goal.returns
unfolding list_loop_line
returns g c = rw (← c.decimal_text-n.ensures.text, ← c.address_digits-digits.ensures) c.write_pieces.ensures
