use Rattle.std.proofs.Common.{ℕ, ◌≡◌, ◌∙◌, w32, SFits, rules, arith}
use Rattle.std.proofs.lemmas.Int.{to_z-of_z, ints}
use Rattle.line_walk.specs.Line.{point_of}
use Rattle.vram_store.specs.Vram.{height_of}
use Rattle.prim_draw.specs.PointColor.{IsInMemory}
use Rattle.prim_draw.proofs.InkLemmas.{next_point, next_walk, inked_next}
use Rattle.prim_draw.proofs.lines.put_points.Goals as goal
use Rattle.prim_draw.proofs.lines.put_points.Goals.{After-next-point}

module _ (g : _) (c : After-next-point g) where
  at : c.next-point.result ≡ point_of c.args.segment.now c.loop-k.k
  at = next_point c.loop-k.walk c.next-point.result c.args.segment.now c.loop-k.k c.loop-k.invariant.here
      c.next-point.ensures.point

  here : IsInMemory (height_of c.args.vram.now) c.next-point.result
  here = let lt = c.loop-k-test.true in
      rw at (c.requires.in_memory c.loop-k.k (omega (arith, lt, c.len-points.ensures.value)))

pub overflow_cast-point : goal.overflow_cast-point
overflow_cast-point g c =
    let h = here g (goal.at.overflow_cast-point g c).After-next-point in
    let fits : SFits w32 c.next-point.result.x = search rules in
    simp to_z-of_z (omega (arith, ints, h.left), omega (arith, ints, h.left, h.right))

pub overflow_cast-point-in-loop-k : goal.overflow_cast-point-in-loop-k
overflow_cast-point-in-loop-k g c =
    let h = here g (goal.at.overflow_cast-point-in-loop-k g c).After-next-point in
    let fits : SFits w32 c.next-point.result.y = search rules in
    simp to_z-of_z (omega (arith, ints, h.top), omega (arith, ints, h.top, h.reach))

pub put-requires-clause-in_row : goal.put-requires-clause-in_row
put-requires-clause-in_row g c =
    let h = here g (goal.at.put-requires-clause-in_row g c).After-next-point in
    let fits : SFits w32 c.next-point.result.x = search rules in
    simp to_z-of_z (omega (arith, ints, h.left, h.right))

pub put-requires-clause-in_height : goal.put-requires-clause-in_height
put-requires-clause-in_height g c =
    let h = here g (goal.at.put-requires-clause-in_height g c).After-next-point in
    let fits : SFits w32 c.next-point.result.y = search rules in
    rw c.loop-k.invariant.long (simp to_z-of_z (omega (arith, ints, h.top, h.bottom)))

pub loop-k-preserved : goal.loop-k-preserved
loop-k-preserved g c =
    let p = c.next-point.result in
    let s = c.args.segment.now in
    let k : ℕ = c.loop-k.k in
    let x : SFits w32 p.x = search rules in
    let y : SFits w32 p.y = search rules in
    record {
      here = next_walk c.loop-k.walk c.next-point.new.self s k c.loop-k.invariant.here c.next-point.ensures.on;
      cells = inked_next s c.args.point_color k c.args.vram.now c.loop-k.vram c.put.new.self p c.loop-k.invariant.cells
          (at g (goal.at.loop-k-preserved g c).After-next-point) (simp to_z-of_z at c.put.ensures.cells);
      cost = omega (arith, c.loop-k.invariant.cost, c.put.ensures.cost);
      long = c.put.ensures.long ∙ c.loop-k.invariant.long;
    }
