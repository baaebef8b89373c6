use Rattle.std.proofs.Common.{ap, refl, arith}
use Rattle.gpu_capture.specs.declared.draft.CaptureFile.{CaptureFile}
use Rattle.capture_cut.proofs.Coming.{comes_first, pauses_on}
use Rattle.capture_cut.proofs.Records.{came_on, pause_lacks, reading_ends, record_ends}
use Rattle.capture_cut.proofs.rest.write_rest.Goals as goal

pub events-init : goal.events-init
events-init g c = record {
  came = λ cut before heard steps rig came.
      comes_first _ _ _ _ _ _ _ _ (ap (λ (f : CaptureFile). f.size) c.new-draft.ensures.file)
      c.new-draft.ensures.buffered
      c.offset-since.ensures
      c.from-number.ensures came;
  ready = c.requires.ready.goes_on;
  fits =
      let size = ap (λ (f : CaptureFile). f.size) c.new-draft.ensures.file in
      omega (arith, size, c.requires.room);
  room = omega arith;
  read_faults = omega arith;
  write_faults = omega arith;
}

pub events-preserved : goal.events-preserved
events-preserved g c = record {
  came = λ cut before heard steps rig first.
      let at = c.events.invariant.came cut before heard steps rig first in
      let paused = pauses_on _ _ _ _ _ c.events.draft c.write_at_pause.new.buffered _ c.in-Ok.offset _
      (g.K.Sink.held c.write_at_pause.new.out) at c.in-Ok.ensures.ok in
      came_on _ _ _ _ _ _ _ _ paused.comes _ _ _ paused.near c.in-Ok-next_event.event
      c.in-Ok-next_event.ensures.takes c.in-Ok-next_event.ensures.gives.version _ c.put_record.new.draft refl
      c.in-Ok-put_record.ensures.ok c.in-Ok-put_record.ensures.allowed;
  ready = c.in-Ok-next_event.ensures.keeps.runs_on;
  fits = c.in-Ok-put_record.ensures.room;
  room = omega (arith, c.events.invariant.room, c.in-Ok-next_event.ensures.gives.forward);
  read_faults = omega (arith, c.events.invariant.read_faults, c.in-Ok-next_event.ensures.faults);
  write_faults =
      let was = c.events.invariant.write_faults in
      omega (arith, was, c.in-Ok.ensures.causes.kept, c.in-Ok-put_record.ensures.known.kept);
}

pub returns-in-Err-clause-ends : goal.returns-in-Err-clause-ends
returns-in-Err-clause-ends g c = λ cut before heard steps rig first.
    let at = c.events.invariant.came cut before heard steps rig first in
    pause_lacks _ _ _ _ _ _ _ _ at _ (g.K.Sink.held c.write_at_pause.new.out) c.in-Err.event
    at.on.reads.bytes c.in-Err.ensures.failed

pub returns-in-Err-put_record-clause-ends : goal.returns-in-Err-put_record-clause-ends
returns-in-Err-put_record-clause-ends g c = λ cut before heard steps rig first.
    let at = c.events.invariant.came cut before heard steps rig first in
    let paused = pauses_on _ _ _ _ _ c.events.draft c.write_at_pause.new.buffered _ c.in-Ok.offset _
    (g.K.Sink.held c.write_at_pause.new.out) at c.in-Ok.ensures.ok in
    record_ends _ _ _ _ _ _ _ _ paused.comes _ _ _ paused.near c.in-Ok-next_event.event
    c.in-Ok-next_event.ensures.takes c.in-Ok-next_event.ensures.gives.version _ c.in-Err-put_record.ending refl
    c.in-Err-put_record.ensures.ends

pub returns-in-Err-next_event-clause-ends : goal.returns-in-Err-next_event-clause-ends
returns-in-Err-next_event-clause-ends g c = λ cut before heard steps rig first.
    let at = c.events.invariant.came cut before heard steps rig first in
    let paused = pauses_on _ _ _ _ _ c.events.draft c.write_at_pause.new.buffered _ c.in-Ok.offset _
    (g.K.Sink.held c.write_at_pause.new.out) at c.in-Ok.ensures.ok in
    reading_ends _ _ _ _ _ _ _ _ paused.comes _ _ _ paused.near c.in-Err-next_event.stop
    (c.in-Err-next_event.ensures.stop c.events.invariant.ready) _ c.end_reading.result refl c.end_reading.ensures.ends

pub returns-in-Err-put_record-clause-writes : goal.returns-in-Err-put_record-clause-writes
returns-in-Err-put_record-clause-writes g c =
    let was = c.events.invariant.write_faults in
    let paused = c.in-Ok.ensures.causes.kept in
    let known = c.in-Err-put_record.ensures.known in
    record {
      kept = omega (arith, was, paused, known.kept);
      cause = λ may. omega (arith, was, paused, known.ends.causes.cause may);
    }
