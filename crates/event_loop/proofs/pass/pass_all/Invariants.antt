use Rattle.std.proofs.Common.{◌≡◌, ◌≤◌, List, None, OnOk, IfErr, IfOk}
use Rattle.dev_io.specs.Device.{Rose}
use Rattle.gpu_capture.specs.Reader.{IsReadFault, capture_from}
use Rattle.gpu_capture.specs.Record.{IsEvent}
use Rattle.gpu_capture.specs.declared.event.Event.{Event}
use Rattle.event_loop.specs.Ending.{matter}
use Rattle.event_loop.proofs.Awaiting.{Awaits, events_left, ports}
use Rattle.event_loop.proofs.pass.pass_all.Given as goal

abbrev pub invariant-events : goal.invariant-events
invariant-events g l = record {
  awaits : (s : g.P.Passage.Start) → g.P.Passage.begins l.fn.passage s → (events : List Event)
      × g.P.Passage.stands l.passage s l.version events
      × Awaits (matter (capture_from l.fn.reader.progress) l.version (g.P.Passage.due s l.version)
      (g.P.Passage.knows s l.version) (g.P.Passage.most s l.version) (g.P.Passage.closing s l.version))
      (ports (g.S.Source.left l.fn.source) (g.K.Sink.held l.fn.out))
      (ports (g.S.Source.left l.source) (g.K.Sink.held l.out)) l.buffered l.since l.reader.progress l.next events;
  event : IfOk l.next IsEvent;
  ready : g.P.Passage.ready l.passage l.buffered;
  running : OnOk l.next (l.reader.stop ≡ None);
  read_cause : IfErr l.next
      (λ stop. IsReadFault stop → Rose (g.S.Source.faults l.fn.source) (g.S.Source.faults l.source));
  read_faults : g.S.Source.faults l.fn.source ≤ g.S.Source.faults l.source;
  write_faults : g.K.Sink.faults l.fn.out ≤ g.K.Sink.faults l.out;
  same : g.P.Passage.same l.fn.passage l.passage;
}

abbrev pub decreases-events : goal.decreases-events
decreases-events g l = events_left l.reader.progress l.next
