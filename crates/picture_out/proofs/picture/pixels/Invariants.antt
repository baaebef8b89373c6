use Rattle.std.proofs.Common.{◌≡◌, ◌≤◌, ◌+◌, ◌-◌, ◌*◌, length, take}
use Rattle.picture_out.specs.Picture.{pixels_from, cells_of_pixel}
use Rattle.picture_out.proofs.picture.pixels.Given as goal

abbrev pub invariant-loop-done : goal.invariant-loop-done
invariant-loop-done g l = record {
  within : l.done ≤ l.n;
  count : length l.bytes ≡ 3072;
  bytes : take (3 * l.done) l.bytes ≡ pixels_from l.vram l.shown l.first l.done;
  cost : l.steps ≡ l.initial.steps + l.done * cells_of_pixel l.shown;
}

abbrev pub decreases-loop-done : goal.decreases-loop-done
decreases-loop-done g l = l.n - l.done
