use Rattle.std.proofs.Common.{◌≡◌, length, map, take, drop}
use Rattle.gpu_taps.specs.Tally.{reading_after}
use Rattle.gpu_taps.proofs.listener.tell_all.Given as goal

abbrev pub invariant-loop-i : goal.invariant-loop-i
invariant-loop-i g l = record {
  len : length l.taps.items ≡ length l.initial.taps.items;
  told : map g.T.Listener.heard (take l.i l.taps.items)
      ≡ map (reading_after l.note) (map g.T.Listener.heard (take l.i l.initial.taps.items));
  rest : drop l.i l.taps.items ≡ drop l.i l.initial.taps.items;
}
