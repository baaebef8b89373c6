use Rattle.std.proofs.Common.{◌++◌, List, ap, ◌∙◌, sym, append-nil, arith}
use Rattle.std.proofs.lemmas.List.{length-append}
use Rattle.circular_buffer.specs.Buffer.{Buffer}
use Rattle.capture_slim.specs.Settling.{all_shut, settled_by}
use Rattle.capture_slim.specs.declared.effect.Effect.{Effect}
use Rattle.capture_slim.specs.declared.slot.Slot.{Slot}
use Rattle.capture_slim.proofs.SettlingLemmas.{no_effect_stays, may_read_shuts, settled_first, settled_append}
use Rattle.capture_slim.proofs.SettlingLemmas.{all_shut_settled}
use Rattle.capture_slim.proofs.SettlingLemmas.{settled_by_long, shut_long}
use Rattle.capture_slim.proofs.slots.Slots.apply_effect.Goals as goal

pub invariant_of-self : goal.invariant_of-self
invariant_of-self c =
    let old = c.self.inside.settled.items in
    let more = c.self.inside.recent.items in
    rw (c.shut_all.ensures.settled, c.shut_all.ensures.recent) (record {
      settled_room = c.self.invariant.settled_room;
      recent_room = c.self.invariant.recent_room;
      fits = omega (arith, c.self.invariant.fits, length-append old (all_shut more), shut_long more);
      are = settled_append old (all_shut more) c.self.invariant.are (all_shut_settled more);
    })

pub invariant_of-self-in-Cover : goal.invariant_of-self-in-Cover
invariant_of-self-in-Cover c = rw (c.settle_all.ensures) (record {
  settled_room = c.self-in-Cover.invariant.settled_room;
  recent_room = c.self-in-Cover.invariant.recent_room;
  fits = omega (
    arith,
    c.self-in-Cover.invariant.fits,
    settled_by_long c.self-in-Cover.inside.recent.items c.args.after c.args.effect.now,
  );
  are = c.self-in-Cover.invariant.are;
})

pub returns-in-Nothing : goal.returns-in-Nothing
returns-in-Nothing c =
    let all = c.args.self.now in
    sym (ap (λ (say : Effect). settled_by all c.args.after say) c.in-Nothing.is ∙ no_effect_stays all c.args.after)

pub returns-in-MayRead : goal.returns-in-MayRead
returns-in-MayRead c =
    let old = c.self.inside.settled.items in
    let more = c.self.inside.recent.items in
    rw (c.shut_all.ensures.settled, c.shut_all.ensures.recent, ← c.self.view_is)
    (append-nil (old ++ all_shut more)
    ∙ sym (ap (λ (say : Effect). settled_by (old ++ more) c.args.after say) c.in-MayRead.is
    ∙ settled_first old more c.args.after _ c.self.invariant.are ∙ ap (λ (ss : List Slot). old ++ ss)
    (may_read_shuts more c.args.after)))

pub returns-in-Cover : goal.returns-in-Cover
returns-in-Cover c =
    let old = c.self-in-Cover.inside.settled.items in
    let more = c.self-in-Cover.inside.recent.items in
    c.pass_settled.ensures
    ∙ ap (λ (b : Buffer Slot). old ++ b.items) c.settle_all.ensures
    ∙ sym (settled_first old more c.args.after c.args.effect.now c.self-in-Cover.invariant.are)
    ∙ ap (λ (ss : List Slot). settled_by ss c.args.after c.args.effect.now) c.self-in-Cover.view_is
