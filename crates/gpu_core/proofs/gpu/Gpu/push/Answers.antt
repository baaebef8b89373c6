use Rattle.std.proofs.Common.{Some, None, sym, ap, ◌∙◌, arith, refl}
use Rattle.gpu_core.specs.Area.{note_of}
use Rattle.gpu_core.specs.Cost.{gp0_cost, item_cost}
use Rattle.gpu_core.specs.Kept.{Kept}
use Rattle.gpu_core.specs.Machine.{Parts, after_gp0, gp0_note, after_item}
use Rattle.gpu_core.proofs.Link.{linked}
use Rattle.gpu_core.proofs.States.{new_item-is}
use Rattle.gpu_core.proofs.gpu.Gpu.push.Goals as goal

pub invariant_of-self-in-Some : goal.invariant_of-self-in-Some
invariant_of-self-in-Some g c =
    let p : Parts = c.self.inside.parts in
    let load = ap (λ (p : Parts). p.load) c.take_item-note.ensures.effect in
    let link = linked p.regs.height c.self.inside.splitter c.args.word c.in-Some.item p c.in-Some.ensures.bounds.0
    c.self.invariant (sym c.in-Some.ensures.answer) in
    rw (c.in-Some.ensures.pending, load) link

pub returns-in-None-clause-feed : goal.returns-in-None-clause-feed
unfolding after_gp0
returns-in-None-clause-feed g c = λ s e.
    let kept = e ∙ sym c.self.view_is in
    let held = ap (λ (k : Kept). k.pending) kept in
    let new = new_item-is s.words c.args.word None (c.in-None.ensures.item s.words held) in
    let rest = c.in-None.ensures.stands s.words held in
    let f : Kept → Kept = λ k. record { parts = k.parts; pending = c.push.new.self } in
    rw (new, rest) (ap f kept)

pub returns-in-None-clause-note : goal.returns-in-None-clause-note
unfolding gp0_note
returns-in-None-clause-note g c = λ s e.
    let held = ap (λ (k : Kept). k.pending) (e ∙ sym c.self.view_is) in
    rw (new_item-is s.words c.args.word None (c.in-None.ensures.item s.words held)) refl

pub returns-in-None-clause-cost : goal.returns-in-None-clause-cost
unfolding gp0_cost
returns-in-None-clause-cost g c = λ s e.
    let held = ap (λ (k : Kept). k.pending) (e ∙ sym c.self.view_is) in
    rw (new_item-is s.words c.args.word None (c.in-None.ensures.item s.words held)) (omega arith)

pub returns-in-Some-clause-feed : goal.returns-in-Some-clause-feed
unfolding after_gp0
returns-in-Some-clause-feed g c = λ s e.
    let kept = e ∙ sym c.self.view_is in
    let held = ap (λ (k : Kept). k.pending) kept in
    let new = new_item-is s.words c.args.word (Some c.in-Some.item) (c.in-Some.ensures.item s.words held) in
    let rest = c.in-Some.ensures.stands s.words held in
    let parts = ap (λ (k : Kept). after_item k.parts (Some c.in-Some.item)) kept
    ∙ sym c.take_item-note.ensures.effect in
    let f : Parts → Kept = λ p. record { parts = p; pending = c.push.new.self } in
    rw (new, rest) (ap f parts)

pub returns-in-Some-clause-note : goal.returns-in-Some-clause-note
unfolding gp0_note
returns-in-Some-clause-note g c = λ s e.
    let kept = e ∙ sym c.self.view_is in
    let held = ap (λ (k : Kept). k.pending) kept in
    let told = ap (λ (k : Kept). note_of k.parts.regs c.args.event c.in-Some.item) kept in
    rw (new_item-is s.words c.args.word (Some c.in-Some.item) (c.in-Some.ensures.item s.words held))
    (ap Some (told ∙ sym c.take_item-note.ensures.note) ∙ sym c.tell.ensures.note)

pub returns-in-Some-clause-cost : goal.returns-in-Some-clause-cost
unfolding gp0_cost
returns-in-Some-clause-cost g c = λ s e.
    let kept = e ∙ sym c.self.view_is in
    let held = ap (λ (k : Kept). k.pending) kept in
    let same = ap (λ (k : Kept). item_cost k.parts (Some c.in-Some.item)) kept in
    rw (new_item-is s.words c.args.word (Some c.in-Some.item) (c.in-Some.ensures.item s.words held), same)
    c.take_item-note.ensures.cost
