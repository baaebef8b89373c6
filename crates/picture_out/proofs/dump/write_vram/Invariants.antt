use Rattle.std.proofs.Common.{◌≡◌, ◌+◌, ◌*◌, take}
use Rattle.dev_io.specs.Device.{side}
use Rattle.dev_io.proofs.Writing.{Wrote}
use Rattle.picture_out.specs.Dump.{dump}
use Rattle.picture_out.proofs.dump.write_vram.Given as goal

abbrev pub invariant-loop-y : goal.invariant-loop-y
invariant-loop-y g l = record {
  wrote : Wrote (side g.K.Sink.held g.K.Sink.faults) l.initial.out l.out (dump (take (1024 * l.y) l.vram));
  cost : l.steps ≡ l.initial.steps + 64 * l.y;
}
