use Rattle.std.proofs.Common.{◌∙◌, arith}
use Rattle.line_walk.specs.Line.{len_of}
use Rattle.prim_draw.proofs.InkLemmas.{cost_next, in_memory, inked_are, inked_cost, next_point, next_walk, points_next}
use Rattle.prim_draw.proofs.lines.draw_points.Goals as goal

pub put_points-requires : goal.put_points-requires
put_points-requires g c = record {
  in_memory = λ k lt. in_memory _ c.args.area.now _ c.requires.area
      (c.in-Some.ensures k lt).inside;
}

pub returns-in-Some-clause-cells : goal.returns-in-Some-clause-cells
returns-in-Some-clause-cells g c =
    c.put_points.ensures.cells ∙ inked_are c.args.area.now c.args.brush.now c.args.segment.now c.in-Some.point_color
    (len_of c.args.segment.now) c.args.vram.now c.in-Some.ensures (omega arith)

pub returns-in-Some-clause-cost : goal.returns-in-Some-clause-cost
returns-in-Some-clause-cost g c =
    let few = inked_cost c.args.area.now c.args.brush.now c.args.segment.now c.in-Some.point_color
    (len_of c.args.segment.now) c.in-Some.ensures (omega arith) in
    omega (arith, few, c.put_points.ensures.cost)

pub loop-k-preserved : goal.loop-k-preserved
loop-k-preserved g c =
    let at = next_point c.loop-k.walk c.next.result c.args.segment.now c.loop-k.k c.loop-k.invariant.here
    c.next.ensures.point in
    record {
      here = next_walk c.loop-k.walk c.next.new.self c.args.segment.now c.loop-k.k c.loop-k.invariant.here
          c.next.ensures.on;
      cells = points_next c.args.area.now c.args.brush.now c.args.segment.now c.loop-k.k c.args.vram.now _ _ _
          c.loop-k.invariant.cells at c.draw_point.ensures.cells;
      cost = cost_next c.args.area.now c.args.segment.now c.loop-k.k _ _ _ _ c.loop-k.invariant.cost at
          c.draw_point.ensures.cost;
      long = c.draw_point.ensures.long ∙ c.loop-k.invariant.long;
    }
