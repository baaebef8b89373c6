use Rattle.std.proofs.Common.{Some, sym, ap, ◌∙◌, arith}
use Rattle.gp0_words.specs.declared.item.Item.TheVariants as item
use Rattle.gpu_core.specs.Kept.{Kept}
use Rattle.gpu_core.specs.Machine.{Parts, effect_of}
use Rattle.gpu_core.proofs.Fed.{fed, data_effect, data_cost, data_note, register_packet, register_note}
use Rattle.gpu_core.proofs.Link.{environment-keeps, linked, linked_inside}
use Rattle.gpu_core.proofs.gpu.Gpu.gp0.Goals as goal

pub invariant_of-self : goal.invariant_of-self
invariant_of-self g c =
    let p : Parts = c.self.inside.parts in
    let push = c.push_pixels.ensures.pixels c.if-push_pixels.true in
    let load = ap (λ (p : Parts). p.load) (c.take_pixels.ensures.pixels ∙ sym (data_effect p c.args.word)) in
    let link = linked p.regs.height c.self.inside.splitter c.args.word
    (item.Pixels c.args.word) p push.bounds.0 c.self.invariant (sym push.decided) in
    rw (push.pending, load) link

pub invariant_of-self-then-passes : goal.invariant_of-self-then-passes
invariant_of-self-then-passes g c =
    let same = c.push_pixels.ensures.others c.if-push_pixels.false in
    let load = ap (λ (p : Parts). p.load) c.set_register.ensures ∙ environment-keeps c.args.word c.self.inside.parts in
    rw (same, load) c.self.invariant

pub returns-then-push_pixels-clause-feed : goal.returns-then-push_pixels-clause-feed
returns-then-push_pixels-clause-feed g c = λ s e.
    let p : Parts = c.self.inside.parts in
    let push = c.push_pixels.ensures.pixels c.if-push_pixels.true in
    let is = fed s (record { parts = p; pending = c.self.inside.splitter }) _ c.args.event c.args.word _
    (e ∙ sym c.self.view_is) push in
    let f : Parts → Kept = λ p. record { parts = p; pending = c.push_pixels.new.self } in
    is.feed ∙ ap f (data_effect p c.args.word ∙ sym c.take_pixels.ensures.pixels)

pub returns-then-push_pixels-clause-note : goal.returns-then-push_pixels-clause-note
returns-then-push_pixels-clause-note g c = λ s e.
    let p : Parts = c.self.inside.parts in
    let push = c.push_pixels.ensures.pixels c.if-push_pixels.true in
    let is = fed s (record { parts = p; pending = c.self.inside.splitter }) _ c.args.event c.args.word _
    (e ∙ sym c.self.view_is) push in
    is.note ∙ ap Some (data_note p.regs c.args.event c.args.word ∙ sym c.bare_note.ensures) ∙ sym c.tell.ensures.note

pub returns-then-push_pixels-clause-cost : goal.returns-then-push_pixels-clause-cost
returns-then-push_pixels-clause-cost g c = λ s e.
    let p : Parts = c.self.inside.parts in
    let push = c.push_pixels.ensures.pixels c.if-push_pixels.true in
    let is = fed s (record { parts = p; pending = c.self.inside.splitter }) _ c.args.event c.args.word _
    (e ∙ sym c.self.view_is) push in
    rw (is.cost, data_cost p c.args.word) c.take_pixels.ensures.cost

pub returns-then-passes-clause-feed : goal.returns-then-passes-clause-feed
returns-then-passes-clause-feed g c = λ s e.
    let p : Parts = c.self.inside.parts in
    let push = c.passes.ensures.packet c.if-passes.true in
    let same = c.push_pixels.ensures.others c.if-push_pixels.false in
    let is = fed s (record { parts = p; pending = c.push_pixels.new.self }) _ c.args.event c.args.word _
    (rw same (e ∙ sym c.self.view_is)) push in
    let f : Parts → Kept = λ p. record { parts = p; pending = c.push_pixels.new.self } in
    is.feed ∙ ap f (ap (effect_of p)
    (register_packet p.regs.height c.args.word (c.passes.ensures.class c.if-passes.true))
    ∙ sym c.set_register.ensures)

pub returns-then-passes-clause-note : goal.returns-then-passes-clause-note
returns-then-passes-clause-note g c = λ s e.
    let p : Parts = c.self.inside.parts in
    let push = c.passes.ensures.packet c.if-passes.true in
    let same = c.push_pixels.ensures.others c.if-push_pixels.false in
    let is = fed s (record { parts = p; pending = c.push_pixels.new.self }) _ c.args.event c.args.word _
    (rw same (e ∙ sym c.self.view_is)) push in
    is.note ∙ ap Some (register_note p.regs c.args.event c.args.word (c.passes.ensures.class c.if-passes.true)
    ∙ sym c.bare_note-then-passes.ensures) ∙ sym c.tell-then-passes.ensures.note

pub invariant_of-self-then-push_inside : goal.invariant_of-self-then-push_inside
invariant_of-self-then-push_inside g c =
    let p : Parts = c.self.inside.parts in
    let push = c.push_inside.ensures.inside c.if-push_inside.true in
    let same = c.push_pixels.ensures.others c.if-push_pixels.false in
    rw push.pending
    (linked_inside c.push_pixels.new.self c.args.word p.load (rw same c.self.invariant) (sym push.decided))

pub returns-then-push_inside-clause-feed : goal.returns-then-push_inside-clause-feed
returns-then-push_inside-clause-feed g c = λ s e.
    let p : Parts = c.self.inside.parts in
    let push = c.push_inside.ensures.inside c.if-push_inside.true in
    let same = c.push_pixels.ensures.others c.if-push_pixels.false in
    let is = fed s (record { parts = p; pending = c.push_pixels.new.self }) _ c.args.event c.args.word _
    (rw same (e ∙ sym c.self.view_is)) push in
    is.feed

pub returns-then-push_inside-clause-note : goal.returns-then-push_inside-clause-note
returns-then-push_inside-clause-note g c = λ s e.
    let p : Parts = c.self.inside.parts in
    let push = c.push_inside.ensures.inside c.if-push_inside.true in
    let same = c.push_pixels.ensures.others c.if-push_pixels.false in
    let is = fed s (record { parts = p; pending = c.push_pixels.new.self }) _ c.args.event c.args.word _
    (rw same (e ∙ sym c.self.view_is)) push in
    is.note

pub returns-then-push_inside-clause-cost : goal.returns-then-push_inside-clause-cost
returns-then-push_inside-clause-cost g c = λ s e. omega arith
