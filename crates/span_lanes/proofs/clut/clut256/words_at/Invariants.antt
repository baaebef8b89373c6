use Rattle.std.proofs.Common.{◌≡◌, ◌<◌, ℕ, length, get_or}
use Rattle.span_lanes.proofs.clut.clut256.words_at.Given as goal

abbrev pub invariant-loop-i : goal.invariant-loop-i
invariant-loop-i l = record {
  long : length l.lanes ≡ 16;
  value : (j : ℕ) → j < l.i → get_or l.lanes j 0 ≡ get_or l.words (get_or l.indexes j 0) 0;
}
