use Rattle.std.proofs.Common.{◌≡◌, ◌+◌, ◌-◌, ◌++◌, ◌∷◌, [], ℕ, List, Option, length, ap, ◌∙◌, sym, subst, arith}
use Rattle.gpu_capture.specs.declared.event.Event.{Event}
use Rattle.capture_slim.specs.File.{FailsRest, IsDraft, output_of}
use Rattle.capture_slim.specs.Window.{Window, all_left, waiting}
use Rattle.capture_slim.specs.declared.slot.Slot.{Slot}
use Rattle.capture_slim.proofs.Rests.{all_left_long, moves_on, none_left, fails_slots}
use Rattle.capture_slim.proofs.rest.add_rest.Goals as goal

pub returns-in-Err-clause-ends : goal.returns-in-Err-clause-ends
returns-in-Err-clause-ends g c = λ base outs is all_count.
    let at = c.slots.invariant in
    let all = waiting c.args.window.now in
    let closed_long = ap (λ (w : Window). length w.slots + length w.words) c.close.ensures in
    let number = c.args.count - c.len-left.result + c.slots.i + 1 in
    let position : number ≡ length (outs ++ all_left at.done) + 1 =
    omega (arith, all_left_long outs at.done, at.counted, all_count, closed_long, c.len-left.ensures.value) in
    let now = g.K.Sink.held c.add_next.new.out in
    let P : ℕ → Type 0 = λ v. FailsRest (record { version = v; base = base; held = now }) outs (all_left all)
    c.in-Err.ending in
    subst P at.version
    (fails_slots (output_of c.slots.draft base now) outs all at.done c.slots.window.slots c.in-Err.ending at.are
    (c.in-Err.ensures.ends base (outs ++ all_left at.done) (at.added base outs is all_count) position))

pub slots-preserved : goal.slots-preserved
slots-preserved g c =
    let at = c.slots.invariant in
    let all = waiting c.args.window.now in
    let closed_long = ap (λ (w : Window). length w.slots + length w.words) c.close.ensures in
    let next = moves_on all at.done c.slots.window.slots at.are
    (omega (arith, at.counted, c.slots-test.true, closed_long, c.len-left.ensures.value)) in
    let number = c.args.count - c.len-left.result + c.slots.i + 1 in
    record {
      done = at.done ++ next.next ∷ [];
      are = next.are ∙ ap (λ (w : Window). (at.done ++ next.next ∷ []) ++ w.slots) (sym c.add_next.ensures.window);
      counted = omega (arith, next.counted, at.counted);
      added = λ base outs is all_count.
          let position : number ≡ length (outs ++ all_left at.done) + 1 =
          omega (arith, all_left_long outs at.done, at.counted, all_count, closed_long, c.len-left.ensures.value) in
          let P : List (Option Event)
          → Type 0 = λ os. IsDraft c.add_next.new.draft base (g.K.Sink.held c.add_next.new.out) os in
          subst P (next.placed outs)
          (c.in-Ok.ensures.ok base (outs ++ all_left at.done) (at.added base outs is all_count) position);
      late = λ least from.
          c.in-Ok.ensures.late least (at.late least from)
          (omega (arith, from.later, closed_long, c.len-left.ensures.value));
      few = c.in-Ok.ensures.few;
      version = c.add_next.ensures.version ∙ at.version;
      faults = omega (arith, at.faults, c.add_next.ensures.writing.causes.kept);
    }

pub returns-clause-ok : goal.returns-clause-ok
returns-clause-ok g c = λ base outs is all_count.
    let at = c.slots.invariant in
    let all = waiting c.args.window.now in
    let closed_long = ap (λ (w : Window). length w.slots + length w.words) c.close.ensures in
    let none = none_left all at.done c.slots.window.slots at.are
    (omega (arith, at.counted, c.slots-test.false, closed_long, c.len-left.ensures.value)) in
    let P : List Slot → Type 0 = λ done. IsDraft c.slots.draft base (g.K.Sink.held c.slots.out)
    (outs ++ all_left done) in
    subst P none (at.added base outs is all_count)

pub returns-clause-most : goal.returns-clause-most
returns-clause-most g c =
    let closed_long = ap (λ (w : Window). length w.slots + length w.words) c.close.ensures in
    omega (arith, closed_long, c.len-left.ensures.value, c.len-left.ensures.few)

pub returns-in-Err-clause-most : goal.returns-in-Err-clause-most
returns-in-Err-clause-most g c =
    let closed_long = ap (λ (w : Window). length w.slots + length w.words) c.close.ensures in
    omega (arith, closed_long, c.len-left.ensures.value, c.len-left.ensures.few)

pub returns-clause-late : goal.returns-clause-late
returns-clause-late g c = λ least from. c.slots.invariant.late least from

pub returns-in-Err-clause-late : goal.returns-in-Err-clause-late
returns-in-Err-clause-late g c = λ least from.
    let closed_long = ap (λ (w : Window). length w.slots + length w.words) c.close.ensures in
    c.in-Err.ensures.late least (c.slots.invariant.late least from)
    (omega (arith, from.later, closed_long, c.len-left.ensures.value))
