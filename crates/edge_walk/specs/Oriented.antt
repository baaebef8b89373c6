-- The corners of an oriented triangle of the code.
use Rattle.std.specs.Prelude.{◌^◌, pos, ◌+ℤ◌, ◌≤ℤ◌}
use Rattle.px_num.specs.declared.shape.Vertex.{Vertex}
use Rattle.edge_walk.specs.declared.oriented.Oriented.{Oriented}
use Rattle.edge_walk.specs.Triangle.{Corners, corners}

abbrev pub corners_of : Oriented → Corners
corners_of t = corners t.a t.b t.c

-- both coordinates of a vertex are at least -2^31, the least number of 32 bits
pub record IsAboveLeast (v : Vertex) : Type 0 where
  pub across : pos 0 ≤ℤ (v.x +ℤ pos (2 ^ 31))
  pub down : pos 0 ≤ℤ (v.y +ℤ pos (2 ^ 31))

-- so are those of all three vertices of a triangle
pub record AreAboveLeast (t : Corners) : Type 0 where
  pub first : IsAboveLeast t.first
  pub second : IsAboveLeast t.second
  pub third : IsAboveLeast t.third
