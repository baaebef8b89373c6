use Rattle.std.proofs.Common.{◌≡◌, ℕ, ◌<◌, ◌≤◌, get_or, length}
use Rattle.edge_walk.proofs.line.keep_first.Given as goal

abbrev pub invariant-loop-j : goal.invariant-loop-j
invariant-loop-j l = record {
  long : length l.kept ≡ 16;
  done : (k : ℕ) → k < l.j → get_or l.kept k 0 ≡ get_or l.all k 0;
  rest : (k : ℕ) → l.j ≤ k → get_or l.kept k 0 ≡ 0;
}
