use Rattle.std.proofs.Common.{ap, arith}
use Rattle.std.proofs.lemmas.Result.{IfErr-weaker}
use Rattle.gpu_capture.specs.declared.draft.CaptureFile.{CaptureFile}
use Rattle.capture_slim.proofs.Awaiting.{starts, awaits_is, count_is, left_falls, falls_on, goes_on, event_end}
use Rattle.capture_slim.proofs.Awaiting.{pause_end, paused_on}
use Rattle.capture_slim.proofs.ReaderStops.{stop_end}
use Rattle.capture_slim.proofs.pass.pass_on.Goals as goal

pub events-init : goal.events-init
events-init g c = record {
  awaits = starts _ _ _ _ _ _ c.max-version.result c.new-draft.result c.next-next.result
      c.new-draft.ensures.file c.new-draft.ensures.buffered c.new-reader.ensures.start c.raise.ensures
      (omega (arith, c.max-version.ensures, c.version.ensures.value)) c.next-next.ensures.takes
      c.next-next.ensures.version (c.next-next.ensures.stop c.new-reader.ensures.stop);
  file =
      let version = ap (λ (f : CaptureFile). f.version) c.new-draft.ensures.file in
      let size = ap (λ (f : CaptureFile). f.size) c.new-draft.ensures.file in
      record {
        version = (
          omega (arith, version, c.max-version.ensures),
          omega (arith, version, c.max-version.ensures, c.version.ensures.known),
        );
        size = omega (arith, size);
      };
  room = omega (arith, left_falls _ _ c.next-next.result c.next-next.ensures.forward, c.new-reader.ensures.work);
  running = c.next-next.ensures.keeps.runs_on;
  read_cause = c.next-next.ensures.cause c.new-reader.ensures.stop;
  read_faults = c.next-next.ensures.faults;
  write_faults = omega arith;
}

pub take_event-requires-clause-count : goal.take_event-requires-clause-count
take_event-requires-clause-count g c =
    count_is _ _ _ _ _ _ _ _ _ c.events.invariant.awaits (omega (arith, c.events.invariant.room))

pub finish-requires-clause-count : goal.finish-requires-clause-count
finish-requires-clause-count g c =
    count_is _ _ _ _ _ _ _ _ _ c.events.invariant.awaits (omega (arith, c.events.invariant.room))

pub returns-in-Err-take_event-clause-ends : goal.returns-in-Err-take_event-clause-ends
returns-in-Err-take_event-clause-ends g c =
    let at = awaits_is _ _ _ _ _ _ _ _ _ _ c.in-Ok.is c.events.invariant.awaits in
    event_end _ _ _ _ _ _ _ _ c.in-Ok.event at _ c.in-Err-take_event.ending
    (c.in-Err-take_event.ensures.ends _ at.came) (c.in-Err-take_event.ensures.late _ at.least at.came at.from)

pub returns-in-Err-write_at_pause-clause-ends : goal.returns-in-Err-write_at_pause-clause-ends
returns-in-Err-write_at_pause-clause-ends g c =
    let at = awaits_is _ _ _ _ _ _ _ _ _ _ c.in-Ok.is c.events.invariant.awaits in
    pause_end _ _ _ _ _ _ _ _ c.in-Ok.event at c.take_event.new.window c.take_event.new.draft
    (g.K.Sink.held c.take_event.new.out) (g.K.Sink.held c.write_at_pause.new.out) c.in-Err-write_at_pause.event
    (c.in-Ok-take_event.ensures.ok _ at.came) (c.in-Ok-take_event.ensures.late _ at.least at.came at.from)
    c.in-Err-write_at_pause.ensures.failed

pub events-smaller : goal.events-smaller
events-smaller g c =
    falls_on _ _ _ c.next_event-next.result c.in-Ok.event c.in-Ok.is
    c.next_event-next.ensures.gives.forward

pub events-preserved : goal.events-preserved
events-preserved g c =
    let at = awaits_is _ _ _ _ _ _ _ _ _ _ c.in-Ok.is c.events.invariant.awaits in
    let running = rw c.in-Ok.is at c.events.invariant.running in
    record {
      awaits = goes_on _ _ _ _ _ _ _ _ c.in-Ok.event at c.next_event-next.new.reader.progress
          (g.S.Source.left c.next_event-next.new.source) (g.K.Sink.held c.write_at_pause.new.out)
          (g.S.Source.faults c.next_event-next.new.source)
          c.take_event.new.window _ c.in-Ok-write_at_pause.offset c.next_event-next.result
          (paused_on _ _ _ _ _ _ _ _ c.in-Ok.event at c.take_event.new.window c.take_event.new.draft
          c.write_at_pause.new.buffered c.in-Ok-write_at_pause.offset (g.K.Sink.held c.take_event.new.out)
          (g.K.Sink.held c.write_at_pause.new.out) (c.in-Ok-take_event.ensures.ok _ at.came)
          (c.in-Ok-take_event.ensures.late _ at.least at.came at.from) c.in-Ok-write_at_pause.ensures.ok)
          c.next_event-next.ensures.takes c.next_event-next.ensures.gives.version
          (c.next_event-next.ensures.stop running);
      file = c.in-Ok-take_event.ensures.room;
      room = omega (
        arith,
        falls_on _ _ _ c.next_event-next.result c.in-Ok.event c.in-Ok.is
            c.next_event-next.ensures.gives.forward,
        c.events.invariant.room,
      );
      running = c.next_event-next.ensures.keeps.runs_on;
      read_cause = IfErr-weaker c.next_event-next.result _ _
          (λ stop may fault. omega (arith, may fault, c.events.invariant.read_faults))
          (c.next_event-next.ensures.cause running);
      read_faults = omega (arith, c.events.invariant.read_faults, c.next_event-next.ensures.faults);
      write_faults = omega (
        arith,
        c.events.invariant.write_faults,
        c.take_event.ensures.writing.causes.kept,
        c.in-Ok-write_at_pause.ensures.causes.kept,
      );
    }

pub returns-in-Err-clause-ends : goal.returns-in-Err-clause-ends
returns-in-Err-clause-ends g c =
    let at = awaits_is _ _ _ _ _ _ _ _ _ _ c.in-Err.is c.events.invariant.awaits in
    stop_end _ _ _ _ _ _ _ _ c.in-Err.stop at (omega (arith, c.version.ensures.known, c.max-version.ensures))
    (rw c.in-Err.is at c.events.invariant.read_cause) _ c.finish.result (c.finish.ensures.ends _ at.came)
    (c.finish.ensures.late at.least at.from)

pub returns-in-Err-take_event-clause-writes : goal.returns-in-Err-take_event-clause-writes
returns-in-Err-take_event-clause-writes g c =
    let was = c.events.invariant.write_faults in
    let took = c.in-Err-take_event.ensures.writing.causes in
    record { kept = omega (arith, was, took.kept); cause = λ may. omega (arith, was, took.cause may) }

pub returns-in-Err-write_at_pause-clause-writes : goal.returns-in-Err-write_at_pause-clause-writes
returns-in-Err-write_at_pause-clause-writes g c =
    let was = c.events.invariant.write_faults in
    let took = c.take_event.ensures.writing.causes.kept in
    let paused = c.in-Err-write_at_pause.ensures.causes in
    record { kept = omega (arith, was, took, paused.kept); cause = λ may. omega (arith, was, took, paused.cause may) }

pub returns-in-Err-clause-reads : goal.returns-in-Err-clause-reads
returns-in-Err-clause-reads g c = record {
  kept = c.events.invariant.read_faults;
  cause = λ may. (rw c.in-Err.is at c.events.invariant.read_cause) (c.finish.ensures.read may);
}

pub returns-in-Err-clause-writes : goal.returns-in-Err-clause-writes
returns-in-Err-clause-writes g c =
    let was = c.events.invariant.write_faults in
    let ended = c.finish.ensures.causes in
    record { kept = omega (arith, was, ended.kept); cause = λ may. omega (arith, was, ended.cause may) }
