use Rattle.std.proofs.Common.{◌≡◌, ℕ, None, Option, slice_index, sym, ap, subst, ◌∙◌}
use Rattle.px_num.specs.declared.shape.Box2.{Box2}
use Rattle.gp0_words.specs.Kinds.{class_of}
use Rattle.gp0_words.specs.declared.item.Item.TheVariants.{Whole}
use Rattle.gp0_words.specs.declared.pending.Pending.{Pending}
use Rattle.gp0_words.specs.declared.pending.Pending.TheVariants as pending
use Rattle.gp0_packets.specs.declared.note.Note.{Note}
use Rattle.gpu_core.specs.Area.{note_of}
use Rattle.gpu_core.specs.Kept.{Kept, IsLinked}
use Rattle.gpu_core.specs.Machine.{Parts}
use Rattle.gpu_core.proofs.Plain.{plain_taken, plain_load}
use Rattle.gpu_core.proofs.gpu.Gpu.take_packet.Goals as goal

pub invariant_of-self : goal.invariant_of-self
invariant_of-self g c =
    let p : Parts = c.self.inside.parts in
    let words = c.args.words.now in
    let idle : c.self.inside.splitter ≡ pending.Idle = ap (λ (k : Kept). k.pending) c.self.view_is ∙ c.requires.idle in
    let P : Pending → Type 0 = λ h. IsLinked h p.load in
    let Q : Pending → Type 0 = λ h. IsLinked h c.carry_out_words-area.new.self.load in
    let none : p.load ≡ None = subst P idle c.self.invariant in
    subst Q (sym idle)
    (ap (λ (p : Parts). p.load) c.carry_out_words-area.ensures.effect
    ∙ plain_load p.regs.height words p c.requires.some c.requires.kind none)

pub returns-clause-takes : goal.returns-clause-takes
returns-clause-takes g c = λ s e.
    let p : Parts = c.self.inside.parts in
    let words = c.args.words.now in
    let head = slice_index words 0 in
    let event = c.saturating_add-event.result in
    let area = c.carry_out_words-area.result in
    let note : ℕ → Option Box2 → Note = λ k a. record { event = event; class = k; head = head; area = a } in
    let noted : note c.class_of_word.result area ≡ note_of p.regs event (Whole words) =
    ap (λ k. note k area) c.class_of_word.ensures.value
    ∙ ap (λ a. note (class_of head) a) c.carry_out_words-area.ensures.area in
    let idle : c.self.inside.splitter ≡ pending.Idle = ap (λ (k : Kept). k.pending) c.self.view_is ∙ c.requires.idle in
    let kept : Parts → Kept = λ p. record { parts = p; pending = c.self.inside.splitter } in
    plain_taken s p c.self.inside.splitter (note c.class_of_word.result area) event c.args.played words _ _
    (e ∙ sym c.self.view_is) idle c.requires.some c.requires.kind c.saturating_add-event.ensures
    noted (ap kept c.carry_out_words-area.ensures.effect) c.tell_all.ensures.told
    c.carry_out_words-area.ensures.cost
