use Rattle.std.proofs.Common.{length, ◌≡◌, ◌+◌}
use Rattle.line_walk.specs.Walk.{Walking}
use Rattle.prim_draw.specs.PointColor.{colored_points}
use Rattle.prim_draw.proofs.lines.put_points.Given as goal

abbrev pub invariant-loop-k : goal.invariant-loop-k
invariant-loop-k g l = record {
  here : ◌≡◌ {A = Walking} l.walk (record { ends = l.segment; at = l.k });
  cells : l.vram ≡ colored_points l.segment l.point_color l.k l.initial.vram;
  cost : l.steps ≡ l.initial.steps + l.k;
  long : length l.vram ≡ length l.initial.vram;
}
