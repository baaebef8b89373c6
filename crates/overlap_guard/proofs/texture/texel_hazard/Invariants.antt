use Rattle.std.proofs.Common.{ℕ, ◌<◌}
use Rattle.overlap_guard.specs.Hazard.{WrittenBefore, cell_at}
use Rattle.overlap_guard.proofs.texture.texel_hazard.Given as goal

abbrev pub invariant-loop-j : goal.invariant-loop-j
invariant-loop-j l = (k : ℕ) → k < l.j → WrittenBefore l.to k (cell_at l.texels k) → ⊥
