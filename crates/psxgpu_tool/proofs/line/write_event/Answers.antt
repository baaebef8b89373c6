use Rattle.psxgpu_tool.specs.Line.{event_line}
use Rattle.psxgpu_tool.proofs.line.write_event.Goals as goal

pub returns : goal.returns
unfolding event_line
returns g c = rw (← c.decimal_text-n.ensures.text) c.write_pieces.ensures
