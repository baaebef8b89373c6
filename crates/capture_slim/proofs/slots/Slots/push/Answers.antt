use Rattle.std.proofs.Common.{◌≡◌, ◌++◌, ◌∷◌, [], List, length, ap, ◌∙◌, sym, arith, append_assoc}
use Rattle.std.proofs.lemmas.List.{length-append}
use Rattle.circular_buffer.specs.Buffer.{Buffer, buffer}
use Rattle.capture_slim.specs.declared.slot.Slot.{Slot}
use Rattle.capture_slim.proofs.SettlingLemmas.{goes_last}
use Rattle.capture_slim.proofs.slots.Slots.push.Goals as goal

last : (c : goal.After-push_back)
    → c.push_back.new.self ≡ buffer (c.self.inside.recent.items ++ c.args.slot ∷ []) c.self.inside.recent.capacity
last c =
    let old = c.self.inside in
    goes_last old.recent c.push_back.new.self c.args.slot
    (omega (
      arith,
      c.requires,
      ap length c.self.view_is,
      length-append old.settled.items old.recent.items,
      c.self.invariant.recent_room,
    ))
    c.push_back.ensures.items

pub invariant_of-self : goal.invariant_of-self
invariant_of-self c =
    let old = c.self.inside in
    record {
      settled_room = c.self.invariant.settled_room;
      recent_room = ap (λ (b : Buffer Slot). b.capacity) (last c) ∙ c.self.invariant.recent_room;
      fits = omega (
        arith,
        c.requires,
        ap length c.self.view_is,
        length-append old.settled.items old.recent.items,
        ap (λ (b : Buffer Slot). length b.items) (last c),
        length-append old.recent.items (c.args.slot ∷ []),
      );
      are = c.self.invariant.are;
    }

pub returns : goal.returns
returns c =
    let old = c.self.inside in
    ap (λ (b : Buffer Slot). old.settled.items ++ b.items) (last c)
    ∙ sym (append_assoc old.settled.items old.recent.items (c.args.slot ∷ []))
    ∙ ap (λ (l : List Slot). l ++ c.args.slot ∷ []) c.self.view_is
