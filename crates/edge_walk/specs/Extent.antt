-- The bounding box of a triangle (psx-spx, "GPU Render Polygon Commands").
use Rattle.std.specs.Prelude.{ℤ, pos, ◌-ℤ◌, ◌≤ℤ◌}
use Rattle.std.specs.Int.{int_min, int_max}
use Rattle.px_num.specs.declared.shape.Box2.{Box2}
use Rattle.edge_walk.specs.Triangle.{Corners}

abbrev pub least_of : ℤ → ℤ → ℤ → ℤ
least_of a b c = int_min (int_min a b) c

abbrev pub most_of : ℤ → ℤ → ℤ → ℤ
most_of a b c = int_max (int_max a b) c

unfoldable pub bounding_box : Corners → Box2
bounding_box t = record {
  x1 = least_of t.first.x t.second.x t.third.x;
  y1 = least_of t.first.y t.second.y t.third.y;
  x2 = most_of t.first.x t.second.x t.third.x;
  y2 = most_of t.first.y t.second.y t.third.y;
}

-- a box that the size rule admits
pub record IsSmallBox (own : Box2) : Type 0 where
  pub across : (own.x2 -ℤ own.x1) ≤ℤ pos 1023
  pub down : (own.y2 -ℤ own.y1) ≤ℤ pos 511
