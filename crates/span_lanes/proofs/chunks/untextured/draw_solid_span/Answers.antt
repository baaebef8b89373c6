use Rattle.std.proofs.Common.{◌∙◌, arith}
use Rattle.span_lanes.proofs.CellsLemmas.{span_law}
use Rattle.span_lanes.proofs.chunks.untextured.draw_solid_span.Goals as goal

pub returns : goal.returns
returns g c = record {
  drawn = record {
    cells = c.draw_chunks.ensures.drawn.cells ∙ span_law c.args.span.now c.args.span.now.n c.args.vram.now;
    long = c.draw_chunks.ensures.drawn.long;
    cost = omega (arith, c.draw_chunks.ensures.drawn.cost);
  };
}
