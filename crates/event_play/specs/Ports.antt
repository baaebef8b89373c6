-- Events of the two ports (our own rule).
use Rattle.std.specs.Prelude.{List, [], ◌∷◌}
use Rattle.gpu_capture.specs.declared.event.Event.{Event}
use Rattle.gpu_capture.specs.declared.event.Event.TheVariants as event

-- an event that writes to a port or reads from one, without main memory and DMA
abbrev pub IsAtPorts : Event → Type 0
IsAtPorts (event.Gp0 word) = Unit {0}
IsAtPorts (event.Gp1 word) = Unit {0}
IsAtPorts event.Read = Unit {0}
IsAtPorts event.Skip = Unit {0}
IsAtPorts event.Stat = Unit {0}
IsAtPorts other = ⊥

abbrev pub AreAtPorts : List Event → Type 0
AreAtPorts [] = Unit {0}
AreAtPorts (event ∷ events) = IsAtPorts event × AreAtPorts events
