use Rattle.std.proofs.Common.{◌≡◌, ◌++◌, refl, sym, ◌∙◌}
use Rattle.capture_slim.specs.Settling.{KeepsSlots}
use Rattle.capture_slim.proofs.SettlingLemmas.{passes}
use Rattle.capture_slim.proofs.slots.Slots.pass_first.Goals as goal

-- the slots after the first recent one was moved
passed : (c : goal.After-push_back)
    → KeepsSlots c.push_back.new.self c.pop_front.new.self
    × (c.push_back.new.self.items ++ c.pop_front.new.self.items
    ≡ c.self.inside.settled.items ++ c.self.inside.recent.items)
passed c =
    let old = c.self.inside in
    passes old.settled.items old.recent.items old.settled.capacity old.recent.capacity c.in-Some.slot
    c.push_back.new.self c.pop_front.new.self
    c.self.invariant (c.if-not-is_first_settled.ensures refl)
    (sym c.in-Some.is ∙ c.pop_front.ensures.value) c.push_back.ensures.items c.pop_front.ensures.items

pub invariant_of-self : goal.invariant_of-self
invariant_of-self c = (passed c).0

pub returns-in-Some : goal.returns-in-Some
returns-in-Some c = (passed c).1 ∙ c.self.view_is
