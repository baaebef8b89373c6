use Rattle.std.proofs.Common.{ℕ, ◌≤◌, ◌<◌, w32, SFits, rules, sym, subst, ◌∙◌, arith}
use Rattle.std.proofs.lemmas.Int.{to_z-of_z, ints}
use Rattle.line_walk.specs.Line.{ends, len_of}
use Rattle.line_walk.specs.Walk.{AreBytes, Walking}
use Rattle.line_walk.proofs.SlopeLemmas.{IsHere, slope_here, slope_at, slope_amid, tones_here, point_is}
use Rattle.line_walk.proofs.walk.Walk.next.Goals as goal
use Rattle.line_walk.proofs.walk.Walk.next.Goals.{After-self}

module _ (c : After-self) where
  within : c.self.inside.at ≤ c.self.inside.steps
  within =
      let more : c.self.inside.at < len_of (ends c.self.inside.a c.self.inside.b) =
      subst (λ (w : Walking). w.at < len_of w.ends) (sym c.self.view_is) c.requires in
      omega (arith, more, c.self.invariant.count)

  at_most : c.self.inside.steps ≤ 1023
  at_most =
      let across = c.self.invariant.near.across in
      let down = c.self.invariant.near.down in
      omega (arith, ints, c.self.invariant.count, across, down)

  x_here : IsHere c.self.inside.x
  x_here = slope_here _ _ c.self.inside.steps c.self.inside.at c.self.inside.x (search rules)
      (search rules) at_most within c.self.invariant.across

  y_here : IsHere c.self.inside.y
  y_here = slope_here _ _ c.self.inside.steps c.self.inside.at c.self.inside.y (search rules)
      (search rules) at_most within c.self.invariant.down

  bytes : AreBytes c.self.inside.tones
  bytes = tones_here _ _ c.self.inside.steps c.self.inside.at c.self.inside.tones at_most within c.self.invariant.shaded

pub tint_between-requires : goal.tint_between-requires
tint_between-requires c = bytes (goal.at.tint_between-requires c).After-self

pub next_tones-self-inside-requires : goal.next_tones-self-inside-requires
next_tones-self-inside-requires c = bytes (goal.at.next_tones-self-inside-requires c).After-self

pub value_of-requires-clause-low : goal.value_of-requires-clause-low
value_of-requires-clause-low c = (x_here c).low

pub value_of-requires-clause-high : goal.value_of-requires-clause-high
value_of-requires-clause-high c = (x_here (goal.at.value_of-requires-clause-high c).After-self).high

pub value_of-requires-2-clause-low : goal.value_of-requires-2-clause-low
value_of-requires-2-clause-low c = (y_here (goal.at.value_of-requires-2-clause-low c).After-self).low

pub value_of-requires-2-clause-high : goal.value_of-requires-2-clause-high
value_of-requires-2-clause-high c = (y_here (goal.at.value_of-requires-2-clause-high c).After-self).high

pub next_slope-self-inside-requires : goal.next_slope-self-inside-requires
next_slope-self-inside-requires c = (x_here (goal.at.next_slope-self-inside-requires c).After-self).place

pub next_slope-self-inside-requires-2 : goal.next_slope-self-inside-requires-2
next_slope-self-inside-requires-2 c = (y_here (goal.at.next_slope-self-inside-requires-2 c).After-self).place

pub overflow_add-self : goal.overflow_add-self
overflow_add-self c =
    let le = within (goal.at.overflow_add-self c).After-self in
    let few : c.self.inside.steps ≤ 1023 = at_most (goal.at.overflow_add-self c).After-self in
    omega (arith, le, few)

pub returns-clause-point : goal.returns-clause-point
returns-clause-point c =
    let most = at_most (goal.at.returns-clause-point c).After-self in
    let le = within (goal.at.returns-clause-point c).After-self in
    let inside = c.self.inside in
    let x : SFits w32 c.value_of.result = search rules in
    let y : SFits w32 c.value_of-2.result = search rules in
    let of_x = c.value_of.ensures
    ∙ slope_at inside.a.x inside.b.x inside.steps inside.at inside.x most le c.self.invariant.across in
    let of_y = c.value_of-2.ensures
    ∙ slope_at inside.a.y inside.b.y inside.steps inside.at inside.y most le c.self.invariant.down in
    rw (← c.self.view_is)
    (simp to_z-of_z
    (point_is (ends inside.a inside.b) inside.at inside.steps c.value_of.result c.value_of-2.result
    c.tint_between.result c.self.invariant.count of_x of_y
    (c.tint_between.ensures.value inside.steps inside.at most le c.self.invariant.shaded)))

pub returns-clause-between : goal.returns-clause-between
returns-clause-between c =
    let most = at_most (goal.at.returns-clause-between c).After-self in
    let le = within (goal.at.returns-clause-between c).After-self in
    let inside = c.self.inside in
    let x : SFits w32 c.value_of.result = search rules in
    let y : SFits w32 c.value_of-2.result = search rules in
    let across = rw (← c.value_of.ensures) at
    (slope_amid inside.a.x inside.b.x inside.steps inside.at inside.x most le c.self.invariant.across) in
    let down = rw (← c.value_of-2.ensures) at
    (slope_amid inside.a.y inside.b.y inside.steps inside.at inside.y most le c.self.invariant.down) in
    rw (← c.self.view_is) (simp to_z-of_z (record { across = across; down = down }))

pub invariant_of-self : goal.invariant_of-self
invariant_of-self c =
    let a = c.self.inside.a in
    let b = c.self.inside.b in
    let k : ℕ = c.self.inside.at in
    record {
      near = c.self.invariant.near;
      count = c.self.invariant.count;
      within = let le = within (goal.at.invariant_of-self c).After-self in omega (arith, le, c.self.invariant.count);
      across = c.next_slope-self-inside.ensures a.x b.x _ k c.self.invariant.across;
      down = c.next_slope-self-inside-2.ensures a.y b.y _ k c.self.invariant.down;
      shaded = c.next_tones-self-inside.ensures a.color b.color _ k c.self.invariant.shaded;
    }
