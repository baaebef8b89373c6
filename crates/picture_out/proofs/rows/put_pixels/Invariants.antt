use Rattle.std.proofs.Common.{◌≡◌, ◌+◌, ◌*◌, length, take}
use Rattle.picture_out.specs.Picture.{pixels_from, cells_of_pixel}
use Rattle.picture_out.proofs.rows.put_pixels.Given as goal

abbrev pub invariant-loop-i : goal.invariant-loop-i
invariant-loop-i g l = record {
  count : length l.bytes ≡ length l.initial.bytes;
  bytes : take (3 * l.i) l.bytes ≡ pixels_from l.vram l.shown l.first l.i;
  cost : l.steps ≡ l.initial.steps + l.i * cells_of_pixel l.shown;
}
