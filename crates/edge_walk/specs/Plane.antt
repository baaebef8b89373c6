-- An attribute over a whole triangle (our own rule).
use Rattle.std.specs.Prelude.{ℕ, ◌+◌, ◌*◌, ◌/◌, ◌%◌, ◌^◌, ◌≡◌, ℤ, pos, ◌+ℤ◌, unsigned_abs, IsTrue}
use Rattle.edge_walk.specs.declared.line.RowLine.{RowLine}
use Rattle.edge_walk.specs.declared.plane.Plane.{Plane}
use Rattle.edge_walk.specs.declared.divisor.Divisor.{Divisor}
use Rattle.edge_walk.specs.Attribute.{attribute, attribute_at, step_of, row_step_of, AreBytes}
use Rattle.edge_walk.specs.Triangle.{Corners, is_inside}
use Rattle.edge_walk.specs.Line.{IsRowLine, scaled}

-- a coordinate, counted from the least possible one
abbrev pub from_least : ℤ → ℕ
from_least x = unsigned_abs (x +ℤ pos (2 ^ 31))

-- the number of a plane at (x, y)
unfoldable pub number_at : Plane → ℤ → ℤ → ℕ
number_at p x y = (p.base + p.across * from_least x + p.down * from_least y) % 2 ^ 64

-- the line of a plane from (x, y) to the right
abbrev pub line_at : Plane → ℤ → ℤ → RowLine
line_at p x y = record { first = number_at p x y; step = p.across }

-- the plane of an oriented triangle: its steps are those of the attribute's sum times the reciprocal, and its number
-- at the first vertex is that vertex's share
pub record IsPlaneOf (t : Corners) (which : ℕ) (divisor : Divisor) (plane : Plane) : Type 0 where
  pub rightward : plane.across ≡ scaled (step_of t which) divisor.reciprocal
  pub downward : plane.down ≡ scaled (row_step_of t which) divisor.reciprocal
  pub first : (plane.base + plane.across * from_least t.first.x + plane.down * from_least t.first.y) % 2 ^ 64
      ≡ divisor.area * attribute which t.first * divisor.reciprocal
  pub bytes : AreBytes which t

-- a plane has the values of an attribute: at each cell inside, the top byte of its number is the attribute, and its
-- line from there has the values of the row
pub record IsPlane (t : Corners) (which : ℕ) (plane : Plane) : Type 0 where
  pub own : (x y : ℤ) → IsTrue (is_inside t x y) → number_at plane x y / 2 ^ 56 ≡ attribute_at t which x y
  pub lines : (x y : ℤ) → IsTrue (is_inside t x y) → IsRowLine t which x y (line_at plane x y)
