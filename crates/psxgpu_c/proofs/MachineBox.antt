-- The box of a machine.
use denote.Signature.{Slot, plain}
use Rattle.std_alloc.proofs.BoxSteps.Form.{Bx}
use Rattle.event_play.specs.contracts.rig.Rig as machine
use Rattle.event_play.proofs.rig.Rig.TheLaws as machine_laws
use Rattle.psxgpu_c.specs.contracts.handle.Held as Held
use Rattle.psxgpu_c.proofs.AsBox.{box_at, from_parts}

abbrev pub E : Bx
E = box_at machine.the_row machine_laws.the_row_laws

abbrev pub FromParts : Slot 0
FromParts = from_parts machine.the_row

abbrev pub FromHandle : Slot 0
FromHandle = plain (λ _. Held.the_row)
