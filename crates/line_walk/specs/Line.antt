-- Segments: the size rule and the points (psx-spx, "GPU Render Line Commands"; the choice of points is our own rule).
use Rattle.std.specs.Prelude.{ℕ, ◌+◌, ◌*◌, ◌/◌, ◌%◌, ◌^◌, ◌≤◌, ◌==◌, Bool, ◌&&◌, nat_le, if◌then◌else◌, max}
use Rattle.std.specs.Prelude.{unsigned_abs, ℤ, pos, ◌+ℤ◌, ◌-ℤ◌, ◌*ℤ◌, ◌≤ℤ◌}
use Rattle.std.specs.Int.{int_div_euclid, int_min, int_max}
use Rattle.px_num.specs.declared.shape.Vertex.{Vertex}

-- two vertices in their order
pub record Ends : Type 0 where
  pub first : Vertex
  pub second : Vertex

abbrev pub ends : Vertex → Vertex → Ends
ends a b = record { first = a; second = b }

-- two vertices that are no further apart than the size rule admits
pub record IsNear (p q : Vertex) : Type 0 where
  pub across : unsigned_abs (p.x -ℤ q.x) ≤ 1023
  pub down : unsigned_abs (p.y -ℤ q.y) ≤ 511

-- the same as a computable test, for definitions that branch on it
abbrev pub is_near : Vertex → Vertex → Bool
is_near p q = nat_le (unsigned_abs (p.x -ℤ q.x)) 1023 && nat_le (unsigned_abs (p.y -ℤ q.y)) 511

-- the number of steps from the first point to the last
abbrev pub steps_of : Ends → ℕ
steps_of s = max (unsigned_abs (s.second.x -ℤ s.first.x)) (unsigned_abs (s.second.y -ℤ s.first.y))

-- the number of points
abbrev pub len_of : Ends → ℕ
len_of s = steps_of s + 1

-- the change at step k of a value that changes by d in n steps, rounded to the nearest integer, and upward from the
-- middle
unfoldable pub rise : ℤ → ℕ → ℕ → ℤ
rise d n k = int_div_euclid (pos (2 * k) *ℤ d +ℤ pos n) (pos (2 * n))

-- a value at step k of n
abbrev pub along : ℤ → ℤ → ℕ → ℕ → ℤ
along from to n k = if n == 0 then from else from +ℤ rise (to -ℤ from) n k

abbrev pub channel_along : ℕ → ℕ → ℕ → ℕ → ℕ
channel_along from to n k = unsigned_abs (along (pos from) (pos to) n k)

-- the colour at step k of n, channel by channel
abbrev pub color_along : ℕ → ℕ → ℕ → ℕ → ℕ
color_along from to n k =
    channel_along (from % 256) (to % 256) n k
    + 2 ^ 8 * channel_along (from / 2 ^ 8 % 256) (to / 2 ^ 8 % 256) n k
    + 2 ^ 16 * channel_along (from / 2 ^ 16 % 256) (to / 2 ^ 16 % 256) n k

-- the k-th point
abbrev pub point_of : Ends → ℕ → Vertex
point_of s k = record {
  x = along s.first.x s.second.x (steps_of s) k;
  y = along s.first.y s.second.y (steps_of s) k;
  color = color_along s.first.color s.second.color (steps_of s) k;
  u = 0;
  v = 0;
}

-- a value between two others, in either order
abbrev pub IsAmid : ℤ → ℤ → ℤ → Type 0
IsAmid a b z = (int_min a b ≤ℤ z) × (z ≤ℤ int_max a b)

-- a point in the smallest box that contains both ends
pub record IsBetweenEnds (s : Ends) (p : Vertex) : Type 0 where
  pub across : IsAmid s.first.x s.second.x p.x
  pub down : IsAmid s.first.y s.second.y p.y
