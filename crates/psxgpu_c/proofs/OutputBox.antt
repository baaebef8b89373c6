-- The box of an output.
use denote.Signature.{Slot, plain}
use Rattle.std_alloc.proofs.BoxSteps.Form.{Bx}
use Rattle.psxgpu_c.specs.contracts.output.Output as output
use Rattle.psxgpu_c.proofs.output.Output.TheLaws as output_laws
use Rattle.psxgpu_c.specs.contracts.output_handle.HeldOutput as HeldOutput
use Rattle.psxgpu_c.proofs.AsBox.{box_at, from_parts}

abbrev pub E : Bx
E = box_at output.the_row output_laws.the_row_laws

abbrev pub FromParts : Slot 0
FromParts = from_parts output.the_row

abbrev pub FromHandle : Slot 0
FromHandle = plain (λ _. HeldOutput.the_row)
