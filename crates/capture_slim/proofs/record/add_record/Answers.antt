use Rattle.std.proofs.Common.{◌≡◌, ◌<◌, ◌+◌, ◌++◌, ◌∙◌, ◌∷◌, [], Some, length, ap, arith, inl, inr, refl, subst, sym}
use Rattle.std.proofs.lemmas.Bool.{cases_lt}
use Rattle.gpu_capture.specs.Capture.{limit}
use Rattle.gpu_capture.specs.declared.draft.CaptureFile.{CaptureFile}
use Rattle.gathered_out.proofs.Pieces.{only_buffered}
use Rattle.capture_slim.specs.File.{due, IsDraft}
use Rattle.capture_slim.proofs.Files.{added_draft, long_ends, out_draft}
use Rattle.capture_slim.proofs.Late.{from_off, from_put}
use Rattle.capture_slim.proofs.record.add_record.Goals as goal

pub returns-then-not-has_room-clause-ends : goal.returns-then-not-has_room-clause-ends
returns-then-not-has_room-clause-ends g c = λ base outs is at.
    let file = c.args.draft.now.file in
    let long : length c.due_bytes-bytes.result.items ≡ length (due file c.args.event.now) =
    ap length c.due_bytes-bytes.ensures.value in
    let after = file.size + length c.due_bytes-bytes.result.items in
    let past : limit < after + 4 = elim (cases_lt limit (after + 4)) [
      | inl past ↦ past
      | inr few ↦ absurd
          (let fits = c.if-not-has_room.ensures.1 (omega (arith, few, c.len.ensures.value)) in cc)
    ] in
    long_ends c.args.draft.now base (g.K.Sink.held c.args.out.now) outs is c.args.event.now c.args.number
    after at (omega (arith, long)) (g.K.Sink.held c.end_too_long.new.out) c.end_too_long.result past
    c.end_too_long.ensures.ends

pub returns-then-not-has_room-clause-late : goal.returns-then-not-has_room-clause-late
returns-then-not-has_room-clause-late g c = λ least from at. c.end_too_long.ensures.late least from

pub put-requires : goal.put-requires
put-requires g c = omega (arith, ap length c.as_slice.ensures.value, c.due_bytes-bytes.ensures.few)

pub returns-in-Ok-clause-ok : goal.returns-in-Ok-clause-ok
returns-in-Ok-clause-ok g c = λ base outs is at.
    let file = c.args.draft.now.file in
    let held = g.K.Sink.held c.args.out.now in
    let pieces = c.args.draft.now.buffered in
    let bytes : c.as_slice.result.now ≡ due file c.args.event.now =
    c.as_slice.ensures.value ∙ c.due_bytes-bytes.ensures.value in
    let long = ap length bytes in
    let slice = ap length c.as_slice.ensures.value in
    let room = c.if-not-has_room.ensures.0 refl in
    let after = file.size + length c.as_slice.result.now in
    let added = added_draft c.args.draft.now base held outs is c.args.event.now c.args.number after at
    (omega (arith, long)) (omega (arith, slice, room, c.len.ensures.value)) in
    let out = rw bytes at (c.in-Ok.ensures.ok held pieces (only_buffered held pieces)) in
    let P : CaptureFile → Type 0 = λ now. IsDraft (record { file = now; buffered = c.put.new.self.buffered }) base
    (g.K.Sink.held c.put.new.out) (outs ++ Some c.args.event.now ∷ []) in
    subst P (sym c.in-Ok.ensures.file)
    (out_draft _ _ c.put.new.self.buffered base held (g.K.Sink.held c.put.new.out) _ added out)

pub returns-in-Err-clause-ends : goal.returns-in-Err-clause-ends
returns-in-Err-clause-ends g c = λ base outs is at.
    let held = g.K.Sink.held c.args.out.now in
    let pieces = c.args.draft.now.buffered in
    is.lacks _ _ (c.in-Err.ensures.failed held pieces (only_buffered held pieces))

pub returns-in-Ok-clause-late : goal.returns-in-Ok-clause-late
returns-in-Ok-clause-late g c = λ least from at.
    let held = g.K.Sink.held c.args.out.now in
    let pieces = c.args.draft.now.buffered in
    from_put least held (g.K.Sink.held c.put.new.out) pieces c.put.new.self.buffered _ from at
    (c.in-Ok.ensures.ok held pieces (only_buffered held pieces))

pub returns-in-Err-clause-late : goal.returns-in-Err-clause-late
returns-in-Err-clause-late g c = λ least from at.
    let held = g.K.Sink.held c.args.out.now in
    let pieces = c.args.draft.now.buffered in
    from_off least pieces held (g.K.Sink.held c.put.new.out) c.in-Err.event from
    (c.in-Err.ensures.failed held pieces (only_buffered held pieces))
