use Rattle.std.proofs.Common.{◌≡◌, ◌≤◌, ◌*◌, length, take}
use Rattle.event_play.specs.RigState.{RigState}
use Rattle.gpu_snapshot.specs.Memories.{TakesWords}
use Rattle.gpu_snapshot.proofs.memory.read_words.Given as goal

abbrev pub invariant-all : goal.invariant-all
invariant-all g l = record {
  takes : TakesWords (g.S.Source.left l.initial.source) (g.S.Source.left l.source) (take (512 * l.b) l.rig.ram);
  others : ◌≡◌ {A = RigState} l.rig (record l.initial.rig { ram = l.rig.ram });
  long : length l.rig.ram ≡ 524288;
  faults : g.S.Source.faults l.initial.source ≤ g.S.Source.faults l.source;
}
