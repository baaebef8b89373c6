use Rattle.std.proofs.Common.{◌≡◌, length, ◌+◌, map, take, drop}
use Rattle.gpu_taps.specs.Bare.{bare_notes, after_notes}
use Rattle.gpu_taps.proofs.listener.tell_all_bare.Given as goal

abbrev pub invariant-loop-k : goal.invariant-loop-k
invariant-loop-k g l = record {
  len : length l.taps.items ≡ length l.initial.taps.items;
  told : map g.T.Listener.heard (take l.k l.taps.items) ≡ map (after_notes (bare_notes l.class (l.played + 1) l.words))
      (map g.T.Listener.heard (take l.k l.initial.taps.items));
  rest : drop l.k l.taps.items ≡ drop l.k l.initial.taps.items;
}
