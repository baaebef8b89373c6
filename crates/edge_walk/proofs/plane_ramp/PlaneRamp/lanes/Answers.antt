use Rattle.std.proofs.Common.{ℕ, ◌≡◌, ◌+◌, ◌-◌, ◌+ℤ◌, pos, ap, ◌∙◌, arith}
use Rattle.std.proofs.lemmas.Int.{ints}
use Rattle.edge_walk.specs.Line.{line_value, short_value}
use Rattle.edge_walk.specs.Plane.{number_at}
use Rattle.edge_walk.proofs.RampLemmas.{ninth_is}
use Rattle.edge_walk.proofs.plane_ramp.PlaneRamp.lanes.Goals as goal

pub returns-clause-value : goal.returns-clause-value
unfolding line_value number_at
returns-clause-value c t which is from j before first lane inside =
    let over = c.args.self.now in
    let plane = over.plane in
    let at : ℕ = c.args.x - from in
    let place : from + at ≡ c.args.x = omega (arith, before) in
    let cell : (pos from +ℤ pos (at + j)) ≡ pos (c.args.x + j) = omega (arith, ints, before) in
    let ninth = ninth_is plane.base plane.across plane.down c.args.x c.args.y from at over.start
    c.after_steps-row.result c.after_steps-ninth.result place over.start_is c.after_steps-row.ensures
    c.after_steps-ninth.ensures in
    c.around.ensures.value plane.across over.is_ramp j lane
    ∙ ap (λ (h : ℕ). short_value plane.across h j) ninth
    ∙ rw cell at (is.lines (pos from) (pos c.args.y) first at j lane (rw cell inside))
