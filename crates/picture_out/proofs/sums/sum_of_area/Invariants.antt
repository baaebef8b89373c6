use Rattle.std.proofs.Common.{◌≡◌, ◌≤◌, ◌+◌, ◌-◌, ◌*◌, ◌++◌}
use Rattle.sha2.specs.Hashers.{Holds256}
use Rattle.picture_out.specs.Picture.{picture_head, pixels_from, cells_of_pixel}
use Rattle.picture_out.proofs.sums.sum_of_area.Given as goal

abbrev pub invariant-loop-done : goal.invariant-loop-done
invariant-loop-done g l = record {
  within : l.done ≤ l.all;
  given : Holds256 l.hasher (picture_head l.shown ++ pixels_from l.vram l.shown 0 l.done);
  cost : l.steps ≡ l.initial.steps + l.done * cells_of_pixel l.shown;
}

abbrev pub decreases-loop-done : goal.decreases-loop-done
decreases-loop-done g l = l.all - l.done
