use Rattle.std.proofs.Common.{◌∙◌, List, ap, subst, sym, ℕ, take}
use Rattle.dev_io.specs.Device.{appended}
use Rattle.gathered_out.specs.Pieces.{BreaksOff, Piece, bytes_of, cut, lacking}
use Rattle.gathered_out.specs.declared.extent.Extent.{Extent}
use Rattle.gathered_out.proofs.Pieces.{breaks_off, cut_bytes}
use Rattle.gathered_out.proofs.output_buffer.OutputBuffer.write_out.Goals as goal

pub returns-in-Ok-clause-ok : goal.returns-in-Ok-clause-ok
returns-in-Ok-clause-ok g c =
    let inside = c.self.inside in
    c.in-Ok.ensures.ok
    ∙ ap (appended (g.K.Sink.held c.args.out.now)) (c.as_slice.ensures.value
    ∙ sym (cut_bytes inside.extents.items inside.bytes.items c.self.invariant)
    ∙ ap bytes_of c.self.view_is)

pub returns-in-Err-clause-failed : goal.returns-in-Err-clause-failed
returns-in-Err-clause-failed g c =
    let inside = c.self.inside in
    let before = g.K.Sink.held c.args.out.now in
    let now = g.K.Sink.held c.write_counted.new.out in
    let taken = c.in-Err.taken in
    let is = c.first_lacking.ensures ∙ ap (λ (es : List Extent). lacking es taken) c.as_slice-in-Err.ensures.value in
    let part = rw c.as_slice.ensures.value at c.in-Err.ensures.part in
    let took = c.in-Err.ensures.failed
    ∙ ap (λ (bs : List ℕ). appended before (take taken bs)) c.as_slice.ensures.value in
    let P : List Piece → Type 0 = λ ps. BreaksOff ps before now c.first_lacking.result in
    let Q : ℕ → Type 0 = λ n. BreaksOff (cut inside.extents.items inside.bytes.items) before now n in
    subst P c.self.view_is
    (subst Q (sym is) (breaks_off inside.extents.items inside.bytes.items taken before now c.self.invariant part took))
