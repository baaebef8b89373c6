use Rattle.std.proofs.Common.{◌≡◌}
use Rattle.capture_slim.proofs.slots.Slots.pass_settled.Given as goal

abbrev pub invariant-loop-i : goal.invariant-loop-i
invariant-loop-i l = record { slots : l.self ≡ l.initial.self }
