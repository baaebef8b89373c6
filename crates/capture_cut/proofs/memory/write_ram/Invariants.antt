use Rattle.std.proofs.Common.{◌≡◌, ◌<◌, ◌*◌, drop, length}
use Rattle.dev_io.specs.Device.{side}
use Rattle.dev_io.proofs.Writing.{IsUnderway}
use Rattle.ot_clear_dma.specs.Ram.{memory_words}
use Rattle.snapshot_words.specs.Outline.{bytes_of}
use Rattle.capture_cut.proofs.memory.write_ram.Given as goal

abbrev pub invariant-loop-i : goal.invariant-loop-i
invariant-loop-i g l = record {
  underway : IsUnderway (side g.K.Sink.held g.K.Sink.faults) l.initial.out l.out (bytes_of (drop (512 * l.i) l.ram))
      (bytes_of l.ram);
  long : 0 < l.i → length l.ram ≡ memory_words;
}
