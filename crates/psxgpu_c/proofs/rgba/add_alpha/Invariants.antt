use Rattle.std.proofs.Common.{◌≡◌, ◌*◌, take, drop}
use Rattle.psxgpu_c.specs.Shown.{with_alpha}
use Rattle.psxgpu_c.proofs.rgba.add_alpha.Given as goal

abbrev pub invariant-loop-k : goal.invariant-loop-k
invariant-loop-k l = record {
  front : take (4 * l.k) l.out ≡ with_alpha l.bytes l.k;
  after : drop (4 * l.count) l.out ≡ drop (4 * l.count) l.initial.out;
}
