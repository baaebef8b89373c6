-- The value of a walk in contracts, and its invariant.
use Rattle.std.specs.Prelude.{◌≡◌, ◌≤◌, max}
use Rattle.line_walk.specs.Line.{IsNear, ends, len_of, steps_of}
use Rattle.line_walk.specs.Walk.{AreTones, IsSlope, Walking}
use Rattle.line_walk.specs.declared.walk.Walk.TheInside.{Inside}

abbrev pub walking_of : Inside → Walking
walking_of w = record { ends = ends w.a w.b; at = w.at }

-- the slopes of both coordinates and of the colour are at the next point; a segment of one point also counts as one
-- step for its slopes
pub record IsWalk (w : Inside) : Type 0 where
  pub near : IsNear w.a w.b
  pub count : w.steps ≡ steps_of (ends w.a w.b)
  pub within : w.at ≤ len_of (ends w.a w.b)
  pub across : IsSlope w.a.x w.b.x (max 1 w.steps) w.at w.x
  pub down : IsSlope w.a.y w.b.y (max 1 w.steps) w.at w.y
  pub shaded : AreTones w.a.color w.b.color (max 1 w.steps) w.at w.tones
