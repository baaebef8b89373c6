use Rattle.std.proofs.Common.{◌≡◌, ◌+◌, ◌*◌, take, drop, length}
use Rattle.picture_out.specs.Dump.{dump}
use Rattle.picture_out.proofs.dump.row_bytes.Given as goal

abbrev pub invariant-loop-k : goal.invariant-loop-k
invariant-loop-k g l = record {
  count : length l.bytes ≡ 2048;
  bytes : take (32 * l.k) l.bytes ≡ dump (take (16 * l.k) (drop (1024 * l.y) l.vram));
  cost : l.steps ≡ l.initial.steps + l.k;
}
