use Rattle.std.proofs.Common.{◌≡◌, ◌≤◌, ◌+◌, ◌++◌, ◌^◌, ℕ, List, Option, length}
use Rattle.gpu_capture.specs.declared.event.Event.{Event}
use Rattle.capture_slim.specs.Came.{BuffersFrom}
use Rattle.capture_slim.specs.File.{AreFrom, IsDraft}
use Rattle.capture_slim.specs.Window.{all_left, waiting}
use Rattle.capture_slim.specs.declared.slot.Slot.{Slot}
use Rattle.capture_slim.proofs.rest.add_rest.Given as goal

abbrev pub invariant-slots : goal.invariant-slots
invariant-slots g l = record {
  done : List Slot;
  are : waiting l.fn.window ≡ done ++ l.window.slots;
  counted : length done ≡ l.i;
  added : (base : Option (List ℕ)) (outs : List (Option Event)) → IsDraft l.fn.draft base (g.K.Sink.held l.fn.out) outs
      → l.fn.count ≡ length outs + length (waiting l.fn.window)
      → IsDraft l.draft base (g.K.Sink.held l.out) (outs ++ all_left done);
  late : (least : ℕ) → BuffersFrom least l.fn.window l.fn.draft l.fn.count → AreFrom least l.draft.buffered;
  few : l.draft.file.size + 4 ≤ 2 ^ 30;
  version : l.draft.file.version ≡ l.fn.draft.file.version;
  faults : g.K.Sink.faults l.fn.out ≤ g.K.Sink.faults l.out;
}
