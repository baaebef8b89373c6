use Rattle.std.proofs.Common.{◌≡◌, ◌≤◌, ◌++◌, ◌-◌, vec_len, vec_capacity}
use Rattle.px_num.specs.Zeros.{zeros}
use Rattle.vram_store.proofs.vram.lengthen.Given as goal

abbrev pub invariant-loop-i : goal.invariant-loop-i
invariant-loop-i l = record {
  items : l.cells.items ≡ l.initial.cells.items ++ zeros (l.i - vec_len l.initial.cells);
  len : vec_len l.cells ≡ l.i;
  room : l.n ≤ vec_capacity l.cells;
}
