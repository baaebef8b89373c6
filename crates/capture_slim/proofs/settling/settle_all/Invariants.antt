use Rattle.std.proofs.Common.{◌≡◌, ◌+◌, ◌-◌, ◌++◌, length, take, drop}
use Rattle.circular_buffer.specs.Buffer.{buffer}
use Rattle.capture_slim.specs.Settling.{settled_by}
use Rattle.capture_slim.proofs.settling.settle_all.Given as goal

-- the updated slots are at the end
abbrev pub invariant-loop-i : goal.invariant-loop-i
invariant-loop-i l = record {
  slots : l.slots
      ≡ buffer (drop l.i l.initial.slots.items ++ settled_by (take l.i l.initial.slots.items)
      (length l.initial.slots.items - l.i + l.after) l.effect) l.initial.slots.capacity;
}
