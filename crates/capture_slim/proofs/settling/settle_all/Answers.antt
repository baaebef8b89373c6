use Rattle.std.proofs.Common.{◌+◌, ◌-◌, length, take, drop, List, ap, ◌∙◌, arith}
use Rattle.circular_buffer.specs.Buffer.{Buffer, buffer}
use Rattle.capture_slim.specs.Settling.{settled_by, turned}
use Rattle.capture_slim.specs.declared.slot.Slot.{Slot}
use Rattle.std.proofs.lemmas.List.{length-append, length-drop, length-take}
use Rattle.capture_slim.proofs.SettlingLemmas.{settled_by_long, turned_next}
use Rattle.capture_slim.proofs.settling.settle_all.Goals as goal

pub turn-requires-clause-fits : goal.turn-requires-clause-fits
turn-requires-clause-fits c =
    let init = c.args.slots.now.items in
    let done = take c.loop-i.i init in
    let slots = ap (λ (b : Buffer Slot). length b.items) c.loop-i.invariant.slots in
    let capacity = ap (λ (b : Buffer Slot). b.capacity) c.loop-i.invariant.slots in
    omega (
      arith,
      slots,
      capacity,
      c.requires.fits,
      length-append (drop c.loop-i.i init)
          (settled_by done (length init - c.loop-i.i + c.args.after) c.args.effect.now),
      settled_by_long done (length init - c.loop-i.i + c.args.after) c.args.effect.now,
      length-drop c.loop-i.i init,
      length-take c.loop-i.i init,
    )

pub loop-i-preserved : goal.loop-i-preserved
loop-i-preserved c =
    let init = c.args.slots.now.items in
    let age = c.len-count.result - 1 - c.loop-i.i + c.args.after in
    record {
      slots = c.turn.ensures
          ∙ ap (λ (b : Buffer Slot). buffer (turned b.items age c.args.effect.now) b.capacity) c.loop-i.invariant.slots
          ∙ ap (λ (l : List Slot). buffer l c.args.slots.now.capacity)
          (turned_next init c.loop-i.i c.args.after age c.args.effect.now
          (omega (arith, c.loop-i-test.true, c.len-count.ensures.len))
          (omega (arith, c.len-count.ensures.len, c.loop-i-test.true)));
    }
