use Rattle.std.proofs.Common.{arith, sym, ◌∙◌}
use Rattle.span_lanes.proofs.CostLemmas.{free_cost, hazard_cost}
use Rattle.span_lanes.proofs.PlanLemmas.{texels_here}
use Rattle.span_lanes.proofs.rows.by_coords.draw_guarded.Goals as goal

pub read_texels-texels-requires : goal.read_texels-texels-requires
read_texels-texels-requires g c = record {
  texture = rw c.requires.row_setup.texture at c.requires.can.span.texture;
  page = rw c.requires.row_setup.texture at c.requires.can.lies.page;
  us = c.requires.at.across;
  vs = c.requires.at.down;
  some = c.requires.chunk.some;
  few = c.requires.chunk.few;
}

pub draw_shaded-requires-clause-texels : goal.draw_shaded-requires-clause-texels
draw_shaded-requires-clause-texels g c =
    texels_here c.args.chunk.now c.args.row_setup.now.texture _ _ c.args.vram.now _ c.requires.at
    c.read_texels-texels.ensures.long c.read_texels-texels.ensures.value

pub returns-then-has_hazard : goal.returns-then-has_hazard
returns-then-has_hazard g c =
    let cost = hazard_cost c.args.chunk.now.span.now c.args.row_setup.now.texture c.args.chunk.now.first
    c.args.chunk.now.k
    c.requires.row_setup.texture
    (sym c.has_hazard.ensures.value ∙ c.if-has_hazard.true) in
    let spent = rw c.requires.row_setup.texture at c.draw_cells.ensures.cost in
    record {
      cells = c.draw_cells.ensures.cells;
      long = c.draw_cells.ensures.long;
      cost = rw cost (omega (arith, spent));
    }

pub returns-else-has_hazard : goal.returns-else-has_hazard
returns-else-has_hazard g c =
    let cost = free_cost c.args.chunk.now.span.now c.args.row_setup.now.texture c.args.chunk.now.first
    c.args.chunk.now.k
    c.requires.row_setup.texture
    (sym c.has_hazard.ensures.value ∙ c.if-has_hazard.false) in
    record {
      cells = c.draw_shaded.ensures.cells;
      long = c.draw_shaded.ensures.others.count;
      cost = omega (arith, cost, c.read_texels-texels.ensures.cost, c.draw_shaded.ensures.cost);
    }
