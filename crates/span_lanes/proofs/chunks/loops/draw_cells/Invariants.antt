use Rattle.std.proofs.Common.{length, ◌≡◌, ◌≤◌, ◌+◌, ◌*◌}
use Rattle.vram_store.specs.Plot.{later, drawn_lanes}
use Rattle.span_lanes.specs.Shade.{shade}
use Rattle.span_lanes.specs.Cost.{paint_steps}
use Rattle.span_lanes.proofs.chunks.loops.draw_cells.Given as goal

abbrev pub invariant-loop-j : goal.invariant-loop-j
invariant-loop-j g l = record {
  cells : l.vram ≡ drawn_lanes (later (shade l.chunk.span.now) l.chunk.first) l.chunk.span.now.brush.mask
      (1024 * l.chunk.span.now.y + (l.chunk.span.now.x + l.chunk.first)) l.j l.initial.vram;
  cost : l.steps ≤ l.initial.steps + (paint_steps l.chunk.span.now.paint + 2) * l.j;
  long : length l.vram ≡ length l.initial.vram;
}
