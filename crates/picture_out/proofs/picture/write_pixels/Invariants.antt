use Rattle.std.proofs.Common.{◌≡◌, ◌≤◌, ◌+◌, ◌-◌, ◌*◌}
use Rattle.dev_io.specs.Device.{side}
use Rattle.dev_io.proofs.Writing.{IsUnderway}
use Rattle.picture_out.specs.Picture.{pixels_from, cells_of_pixel}
use Rattle.picture_out.proofs.picture.write_pixels.Given as goal

abbrev pub invariant-loop-done : goal.invariant-loop-done
invariant-loop-done g l = record {
  within : l.done ≤ l.all;
  wrote : IsUnderway (side g.K.Sink.held g.K.Sink.faults) l.initial.out l.out
      (pixels_from l.vram l.shown l.done (l.all - l.done)) (pixels_from l.vram l.shown 0 l.all);
  cost : l.steps ≡ l.initial.steps + l.done * cells_of_pixel l.shown;
}

abbrev pub decreases-loop-done : goal.decreases-loop-done
decreases-loop-done g l = l.all - l.done
