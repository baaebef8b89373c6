-- What the handle of a machine has in its box.
use denote.RattleType.{RattleType}
use Rattle.event_play.specs.contracts.rig.Rig as machine

abbrev pub machine_row : RattleType
machine_row = machine.the_row
