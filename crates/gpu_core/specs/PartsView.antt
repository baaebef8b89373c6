-- A GPU without its splitter, in contracts.
use Rattle.gpu_core.specs.Machine.{Parts}
use Rattle.gpu_core.specs.declared.parts.Parts.TheInside.{Inside}

abbrev pub parts_of : Inside → Parts
parts_of p = record { m = p.vram; regs = p.regs; load = p.load; store = p.store }
