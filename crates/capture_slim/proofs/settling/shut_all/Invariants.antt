use Rattle.std.proofs.Common.{◌≡◌, ◌++◌, take, drop}
use Rattle.circular_buffer.specs.Buffer.{buffer}
use Rattle.capture_slim.specs.Settling.{all_shut}
use Rattle.capture_slim.proofs.settling.shut_all.Given as goal

abbrev pub invariant-loop-i : goal.invariant-loop-i
invariant-loop-i l = record {
  settled : l.settled
      ≡ buffer (l.initial.settled.items ++ all_shut (take l.i l.initial.recent.items)) l.initial.settled.capacity;
  rest : l.recent ≡ buffer (drop l.i l.initial.recent.items) l.initial.recent.capacity;
}
