use Rattle.std.proofs.Common.{◌≡◌, ◌+◌, ◌*◌, take, drop}
use Rattle.dev_io.specs.Device.{side}
use Rattle.dev_io.proofs.Writing.{IsUnderway}
use Rattle.snapshot_words.specs.Outline.{bytes_of, AreCells}
use Rattle.snapshot_words.specs.Values.{cell_words}
use Rattle.capture_cut.proofs.memory.write_cells.Given as goal

abbrev pub invariant-loop-y : goal.invariant-loop-y
invariant-loop-y g l = record {
  underway : IsUnderway (side g.K.Sink.held g.K.Sink.faults) l.initial.out l.out
      (bytes_of (cell_words (drop (1024 * l.y) l.vram))) (bytes_of (cell_words l.vram));
  cells : AreCells (take (1024 * l.y) l.vram);
  cost : l.steps ≡ l.initial.steps + 64 * l.y;
}
