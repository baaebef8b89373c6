use Rattle.std.proofs.Common.{◌≡◌, ◌+◌, ◌∙◌, Err, Ok, ap, inr, length, refl, arith}
use Rattle.gathered_out.specs.Puts.{sink_state}
use Rattle.gathered_out.proofs.Puts.{put_one}
use Rattle.gpu_capture.specs.Written.{spelled}
use Rattle.gpu_capture.specs.declared.draft.CaptureFile.{CaptureFile}
use Rattle.capture_cut.proofs.rest.put_record.Goals as goal

pub returns-in-Ok-clause-ok : goal.returns-in-Ok-clause-ok
returns-in-Ok-clause-ok g c =
    let bytes : c.as_slice.result.now ≡ spelled c.args.event.now =
    c.as_slice.ensures.value ∙ c.record_bytes-bytes.ensures in
    let size = ap (λ (f : CaptureFile). f.size) c.in-Ok.ensures.file in
    let long = ap length bytes in
    let long_in = ap length c.record_bytes-bytes.ensures in
    let room = c.if-not-has_room.ensures.0 refl in
    record {
      put = rw (← bytes)
          (put_one {Value = Unit {0}} c.args.number c.as_slice.result.now
          (sink_state g.K.Sink.held g.K.Sink.faults c.args.out.now c.args.draft.now.buffered)
          (sink_state g.K.Sink.held g.K.Sink.faults c.put.new.out c.put.new.self.buffered) (Ok tt)
          c.in-Ok.ensures.ok (λ base pieces out. tt) tt c.in-Ok.ensures.faults).ok;
      size_is = omega (arith, size, long);
      fits = omega (arith, size, long, long_in, room, c.len.ensures.value);
    }

pub returns-in-Err-clause-ends : goal.returns-in-Err-clause-ends
returns-in-Err-clause-ends g c =
    let bytes : c.as_slice.result.now ≡ spelled c.args.event.now =
    c.as_slice.ensures.value ∙ c.record_bytes-bytes.ensures in
    let long = ap length c.record_bytes-bytes.ensures in
    let room = c.if-not-has_room.ensures.0 refl in
    inr (
      omega (arith, long, room, c.len.ensures.value),
      c.in-Err.event,
      refl,
      rw (← bytes)
          (put_one {Value = Unit {0}} c.args.number c.as_slice.result.now
          (sink_state g.K.Sink.held g.K.Sink.faults c.args.out.now c.args.draft.now.buffered)
          (sink_state g.K.Sink.held g.K.Sink.faults c.put.new.out c.put.new.self.buffered) (Err c.in-Err.event)
          (λ base pieces out. tt) c.in-Err.ensures.failed c.in-Err.ensures.cause c.in-Err.ensures.faults).failed,
    )
