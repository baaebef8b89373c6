use Rattle.std.proofs.Common.{◌≡◌, SFits, w32, ap, rules, arith}
use Rattle.std.proofs.lemmas.Int.{ints, clamps, to_z-of_z}
use Rattle.std.specs.Int.{int_max, int_min}
use Rattle.edge_walk.specs.Extent.{bounding_box}
use Rattle.edge_walk.proofs.WalkLemmas.{answer_in, none_beyond, row_of}
use Rattle.edge_walk.proofs.triangle.Tri.row_span.Goals as goal
use Rattle.edge_walk.proofs.triangle.Tri.row_span.Goals.{After-min-bottom, then-y-top-via-then-y-top}
use Rattle.edge_walk.proofs.triangle.Tri.row_span.Goals.{then-y-top-via-else-y-top+then-bottom-y}

top_is : (c : After-min-bottom) → c.max-top.result ≡ int_max c.args.clip.now.y1 (bounding_box c.args.self.now).y1
top_is c =
    let clip_fits : SFits w32 c.args.clip.now.y1 = search rules in
    let own_fits : SFits w32 c.bounds-own.result.y1 = search rules in
    let own : c.bounds-own.result.y1 ≡ (bounding_box c.args.self.now).y1 = ap (λ b. b.y1) c.bounds-own.ensures.value in
    rw own at (simp to_z-of_z at c.max-top.ensures.value)

bottom_is : (c : After-min-bottom)
    → c.min-bottom.result ≡ int_min c.args.clip.now.y2 (bounding_box c.args.self.now).y2
bottom_is c =
    let clip_fits : SFits w32 c.args.clip.now.y2 = search rules in
    let own_fits : SFits w32 c.bounds-own.result.y2 = search rules in
    let own : c.bounds-own.result.y2 ≡ (bounding_box c.args.self.now).y2 = ap (λ b. b.y2) c.bounds-own.ensures.value in
    rw own at (simp to_z-of_z at c.min-bottom.ensures.value)

pub returns-then-y-top : goal.returns-then-y-top
returns-then-y-top c x box =
    let top = top_is (goal.at.returns-then-y-top c).After-min-bottom in
    let bottom = bottom_is (goal.at.returns-then-y-top c).After-min-bottom in
    none_beyond c.args.self.now c.args.clip.now c.args.y c.bounds-own.ensures.drawn (λ b. elim c.then-y-top.branch [
      | then-y-top-via-then-y-top w ↦ omega (arith, ints, top, b.0, w.if-y-top.true)
      | then-y-top-via-else-y-top+then-bottom-y w ↦ omega (arith, ints, bottom, b.1, w.if-bottom-y.true)
    ]) x box

pub rows-requires : goal.rows-requires
rows-requires c =
    let clip = c.args.clip.now in
    let y_fits = c.ranges.y in
    let left : SFits w32 clip.x1 = search rules in
    let right : SFits w32 clip.x2 = search rules in
    let top = top_is (goal.at.rows-requires c).After-min-bottom in
    let bottom = bottom_is (goal.at.rows-requires c).After-min-bottom in
    simp to_z-of_z (record {
      top = omega (arith, ints, clamps, top, c.if-y-top.false);
      some = omega (arith, ints);
      bottom = omega (arith, ints, clamps, bottom, c.if-bottom-y.false);
    })

pub returns : goal.returns
returns c =
    let t = c.args.self.now in
    let clip = c.args.clip.now in
    let y_fits = c.ranges.y in
    let left : SFits w32 clip.x1 = search rules in
    let right : SFits w32 clip.x2 = search rules in
    let top = top_is (goal.at.returns c).After-min-bottom in
    let bottom = bottom_is (goal.at.returns c).After-min-bottom in
    let rows = simp to_z-of_z at c.rows.ensures in
    answer_in t clip c.args.y (omega (arith, ints, clamps, top, c.if-y-top.false))
    (omega (arith, ints, clamps, bottom, c.if-bottom-y.false)) c.next.result
    (c.next.ensures.span t (row_of clip c.args.y) c.args.y rows (omega (arith, ints)))
