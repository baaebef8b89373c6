use Rattle.std.proofs.Common.{◌≡◌, ℕ, take}
use Rattle.gpu_core.specs.Feeds.{SetsRegisters}
use Rattle.gpu_core.specs.Kept.{kept_of}
use Rattle.gpu_core.specs.Machine.{State}
use Rattle.gpu_core.proofs.gpu.block.set_all.Given as goal

abbrev pub invariant-loop-i : goal.invariant-loop-i
invariant-loop-i l = record {
  load : l.parts.load ≡ l.initial.parts.load;
  sets : (s : State) (first : ℕ) → kept_of s ≡ record { parts = l.initial.parts; pending = l.splitter }
      → SetsRegisters s first (take l.i l.words) (record { parts = l.parts; pending = l.splitter });
}
