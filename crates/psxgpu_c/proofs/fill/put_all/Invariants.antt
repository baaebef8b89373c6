use Rattle.std.proofs.Common.{◌≡◌}
use Rattle.psxgpu_c.specs.Memory.{put_first}
use Rattle.psxgpu_c.proofs.fill.put_all.Given as goal

abbrev pub invariant-words : goal.invariant-words
invariant-words l = l.rig ≡ record l.initial.rig { ram = put_first l.initial.rig.ram l.address l.words l.i }
