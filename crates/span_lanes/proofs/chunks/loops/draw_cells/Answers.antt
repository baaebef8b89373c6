use Rattle.std.proofs.Common.{ℕ, ◌+◌, ◌*◌, ◌∙◌, sym, ap, refl, arith}
use Rattle.std.proofs.lemmas.Grind.{common_steps}
use Rattle.vram_store.specs.Plot.{later, draw_lane}
use Rattle.span_lanes.specs.Shade.{shade}
use Rattle.vram_store.proofs.Drawn.{lane_later, drawn_more, drawn_none}
use Rattle.span_lanes.proofs.chunks.loops.draw_cells.Goals as goal

pub loop-j-init : goal.loop-j-init
loop-j-init g c = record { cells = sym (drawn_none _ _ _ _); cost = omega arith; long = refl }

pub loop-j-preserved : goal.loop-j-preserved
loop-j-preserved g c = record {
  cells =
      let span = c.args.chunk.now.span.now in
      let start : ℕ = 1024 * span.y + span.x in
      let place : ℕ = 1024 * span.y + (span.x + c.args.chunk.now.first) in
      c.draw_cell.ensures.cells
      ∙ lane_later (shade span) span.brush.mask start c.args.chunk.now.first place c.loop-j.j c.loop-j.vram
      (omega arith)
      ∙ ap (draw_lane (later (shade span) c.args.chunk.now.first) span.brush.mask place c.loop-j.j)
      c.loop-j.invariant.cells
      ∙ sym (drawn_more (later (shade span) c.args.chunk.now.first) span.brush.mask place c.loop-j.j c.args.vram.now);
  cost = grind (arith, common_steps, c.loop-j.invariant.cost, c.draw_cell.ensures.cost);
  long = c.draw_cell.ensures.long ∙ c.loop-j.invariant.long;
}

pub draw_cell-requires-clause-height : goal.draw_cell-requires-clause-height
draw_cell-requires-clause-height g c = rw c.loop-j.invariant.long c.requires.can.lies
