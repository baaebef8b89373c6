use Rattle.std.proofs.Common.{◌≡◌, ◌≤◌, ◌<◌, ◌+◌, ◌^◌, None, OnOk, IfErr}
use Rattle.dev_io.specs.Device.{Rose}
use Rattle.gpu_capture.specs.Reader.{IsReadFault}
use Rattle.event_loop.proofs.Awaiting.{events_left}
use Rattle.gpu_capture.specs.Draft.{IsOpen}
use Rattle.capture_slim.specs.Passing.{streams}
use Rattle.capture_slim.proofs.Awaiting.{Awaits}
use Rattle.capture_slim.proofs.pass.pass_on.Given as goal

abbrev pub invariant-events : goal.invariant-events
invariant-events g l = record {
  awaits : Awaits l.version
      (streams (g.S.Source.left l.fn.source) (g.S.Source.faults l.fn.source) (g.K.Sink.held l.fn.out))
      (streams (g.S.Source.left l.source) (g.S.Source.faults l.source) (g.K.Sink.held l.out)) l.window l.draft l.count
      l.since l.reader.progress l.next;
  file : IsOpen l.draft.file;
  room : l.count + events_left l.reader.progress l.next < 2 ^ 52;
  running : OnOk l.next (l.reader.stop ≡ None);
  read_cause : IfErr l.next (λ stop. IsReadFault stop → Rose (g.S.Source.faults l.fn.source)
      (g.S.Source.faults l.source));
  read_faults : g.S.Source.faults l.fn.source ≤ g.S.Source.faults l.source;
  write_faults : g.K.Sink.faults l.fn.out ≤ g.K.Sink.faults l.out;
}

abbrev pub decreases-events : goal.decreases-events
decreases-events g l = events_left l.reader.progress l.next
