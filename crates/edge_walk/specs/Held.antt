-- The fields of a triangle besides its vertices.
use Rattle.std.specs.Prelude.{Bool, ℕ, ◌≡◌, int_lt, pos, unsigned_abs}
use Rattle.edge_walk.specs.declared.divisor.Divisor.{Divisor}
use Rattle.edge_walk.specs.Divisor.{divisor_of}
use Rattle.edge_walk.specs.Triangle.{Corners, doubled_area, IsDrawn}

abbrev pub is_turned : Corners → Bool
is_turned t = int_lt (doubled_area t) (pos 0)

abbrev pub size_of : Corners → ℕ
size_of t = unsigned_abs (doubled_area t)

-- the divisor of the sums of its attributes
abbrev pub divisor_for : Corners → Divisor
divisor_for t = divisor_of (size_of t)

pub record IsHeld (t : Corners) (turned : Bool) (area : ℕ) : Type 0 where
  pub drawn : IsDrawn t
  pub turned_is : turned ≡ is_turned t
  pub area_is : area ≡ size_of t
