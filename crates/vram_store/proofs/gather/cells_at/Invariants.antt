use Rattle.std.proofs.Common.{◌≡◌, ◌<◌, ℕ, length, get_or}
use Rattle.vram_store.proofs.gather.cells_at.Given as goal

abbrev pub invariant-loop-j : goal.invariant-loop-j
invariant-loop-j l = record {
  long : length l.lanes ≡ 16;
  value : (i : ℕ) → i < l.j → get_or l.lanes i 0 ≡ get_or l.cells (get_or l.numbers i 0) 0;
}
