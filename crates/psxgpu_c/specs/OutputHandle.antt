-- What the handle of an output has in its box.
use denote.RattleType.{RattleType}
use Rattle.psxgpu_c.specs.contracts.output.Output as output

abbrev pub output_row : RattleType
output_row = output.the_row
