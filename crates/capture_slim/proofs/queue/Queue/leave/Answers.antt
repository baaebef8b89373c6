use Rattle.std.proofs.Common.{ap, ◌∙◌, sym, arith, List}
use Rattle.capture_slim.specs.Places.{kept_of}
use Rattle.capture_slim.specs.declared.queue.Queue.{Queue}
use Rattle.capture_slim.specs.declared.slot.Slot.{Slot}
use Rattle.capture_slim.proofs.SettlingLemmas.{none_leaves, first_leaves}
use Rattle.capture_slim.proofs.queue.Queue.leave.Goals as goal

pub returns-then-len-le-WINDOW_EVENTS-clause-left : goal.returns-then-len-le-WINDOW_EVENTS-clause-left
returns-then-len-le-WINDOW_EVENTS-clause-left c =
    let q = c.args.self.now in
    sym (ap kept_of (none_leaves q.slots q.words (omega (arith, c.if-len-le-WINDOW_EVENTS.true, c.len.ensures))).0)

pub returns-then-len-le-WINDOW_EVENTS-clause-now : goal.returns-then-len-le-WINDOW_EVENTS-clause-now
returns-then-len-le-WINDOW_EVENTS-clause-now c =
    let q = c.args.self.now in
    ap {B = Queue} (λ (ss : List Slot). record { slots = ss; words = q.words })
    (sym (none_leaves q.slots q.words (omega (arith, c.if-len-le-WINDOW_EVENTS.true, c.len.ensures))).1)

pub returns-clause-left : goal.returns-clause-left
returns-clause-left c =
    let q = c.args.self.now in
    rw (c.pop.ensures.event)
    (first_leaves q.slots q.words (omega (arith, c.if-len-le-WINDOW_EVENTS.false, c.len.ensures))).0

pub returns-clause-now : goal.returns-clause-now
returns-clause-now c =
    let q = c.args.self.now in
    c.pop.ensures.now ∙ ap {B = Queue} (λ (ss : List Slot). record { slots = ss; words = q.words })
    (first_leaves q.slots q.words (omega (arith, c.if-len-le-WINDOW_EVENTS.false, c.len.ensures))).1
