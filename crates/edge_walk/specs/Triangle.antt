-- Triangles: the edge rule, the size rule and the cells inside (psx-spx, "GPU Render Polygon Commands"; the edge rule
-- is our own).
use Rattle.std.specs.Prelude.{◌≤◌, ◌≡◌, ◌≢◌, ◌⊎◌, ◌==◌, Bool, not, ◌||◌, ◌&&◌, nat_le, if◌then◌else◌, int_lt}
use Rattle.std.specs.Prelude.{unsigned_abs, ℤ}
use Rattle.std.specs.Prelude.{pos, ◌-ℤ◌, ◌*ℤ◌, ◌<ℤ◌}
use Rattle.std.specs.Ordering.{int_eq}
use Rattle.px_num.specs.declared.shape.Vertex.{Vertex}

-- three vertices in their order
pub record Corners : Type 0 where
  pub first : Vertex
  pub second : Vertex
  pub third : Vertex

abbrev pub corners : Vertex → Vertex → Vertex → Corners
corners a b c = record { first = a; second = b; third = c }

-- the edge value of a cell: its sign is the side of the line from p to q, its size grows with the distance
unfoldable pub edge : Vertex → Vertex → ℤ → ℤ → ℤ
edge p q x y = (q.x -ℤ p.x) *ℤ (y -ℤ p.y) -ℤ (q.y -ℤ p.y) *ℤ (x -ℤ p.x)

abbrev pub doubled_area : Corners → ℤ
doubled_area t = edge t.first t.second t.third.x t.third.y

-- a triangle, with its second and third vertex exchanged if the doubled area is negative
unfoldable pub oriented : Corners → Corners
oriented t = if int_lt (doubled_area t) (pos 0) then corners t.first t.third t.second else t

-- a triangle rotated to start at its second vertex
abbrev pub turned : Corners → Corners
turned t = corners t.second t.third t.first

-- u is t rotated to start at any of its vertices
abbrev pub IsTurn : Corners → Corners → Type 0
IsTurn t u = (u ≡ t) ⊎ ((u ≡ turned t) ⊎ (u ≡ turned (turned t)))

-- an edge whose cells belong to the triangle: it goes up, or level to the right
abbrev pub is_kept_edge : Vertex → Vertex → Bool
is_kept_edge p q = int_lt q.y p.y || (int_eq q.y p.y && int_lt p.x q.x)

unfoldable pub is_on_side : Vertex → Vertex → ℤ → ℤ → Bool
is_on_side p q x y = int_lt (pos 0) (edge p q x y) || (int_eq (edge p q x y) (pos 0) && is_kept_edge p q)

-- a cell on the inner side of three edges
unfoldable pub is_within : Corners → ℤ → ℤ → Bool
is_within t x y = is_on_side t.first t.second x y && is_on_side t.second t.third x y && is_on_side t.third t.first x y

-- a cell that the triangle draws
abbrev pub is_inside : Corners → ℤ → ℤ → Bool
is_inside t x y = is_within (oriented t) x y

-- two vertices that are no further apart than the size rule admits
pub record IsNear (p q : Vertex) : Type 0 where
  pub across : unsigned_abs (p.x -ℤ q.x) ≤ 1023
  pub down : unsigned_abs (p.y -ℤ q.y) ≤ 511

-- the size rule
pub record IsSmall (t : Corners) : Type 0 where
  pub one : IsNear t.first t.second
  pub two : IsNear t.second t.third
  pub three : IsNear t.third t.first

-- a triangle that may have cells inside: the size rule admits it, and its doubled area is not 0
pub record IsDrawn (t : Corners) : Type 0 where
  pub small : IsSmall t
  pub area : doubled_area t ≢ pos 0

-- the size rule of two vertices as a computable test, for definitions that branch on it
abbrev pub is_near : Vertex → Vertex → Bool
is_near p q = nat_le (unsigned_abs (p.x -ℤ q.x)) 1023 && nat_le (unsigned_abs (p.y -ℤ q.y)) 511

abbrev pub is_flat : Corners → Bool
is_flat t = unsigned_abs (doubled_area t) == 0

unfoldable pub is_drawn : Corners → Bool
is_drawn t = is_near t.first t.second && is_near t.second t.third && is_near t.third t.first && not (is_flat t)

-- such a triangle with a positive doubled area
pub record IsUpright (t : Corners) : Type 0 where
  pub small : IsSmall t
  pub area : pos 0 <ℤ doubled_area t
