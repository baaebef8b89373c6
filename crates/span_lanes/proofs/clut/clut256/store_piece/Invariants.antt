use Rattle.std.proofs.Common.{◌≡◌, ◌<◌, ◌+◌, ◌*◌, ◌%◌, ◌/◌, ◌^◌, ℕ, length, get_or}
use Rattle.span_lanes.proofs.clut.clut256.store_piece.Given as goal

abbrev pub invariant-loop-i : goal.invariant-loop-i
invariant-loop-i l = record {
  long : length l.words ≡ 256;
  entry : (j : ℕ) → j < l.i → get_or l.words (16 * l.piece + j) 0 % 2 ^ 16 ≡ get_or l.entries j 0;
  front : (j : ℕ) → j < l.i → get_or l.words (16 * l.piece + j) 0 / 2 ^ 16 ≡ get_or l.modulated j 0;
  others : (j : ℕ) → j < 16 * l.piece → get_or l.words j 0 ≡ get_or l.initial.words j 0;
}
