-- The cells of a triangle in one row (our own rule).
use Rattle.std.specs.Prelude.{if◌then◌else◌, ℤ, pos, ◌≤ℤ◌, IsTrue, ◌↔◌}
use Rattle.px_num.specs.declared.shape.Vertex.{Vertex}
use Rattle.px_num.specs.declared.shape.Box2.{Box2}
use Rattle.edge_walk.specs.Triangle.{Corners, is_inside, is_kept_edge}

abbrev pub IsBetween : ℤ → ℤ → ℤ → Type 0
IsBetween low high x = (low ≤ℤ x) × (x ≤ℤ high)

abbrev pub IsInBox : Box2 → ℤ → ℤ → Type 0
IsInBox b x y = IsBetween b.x1 b.x2 x × IsBetween b.y1 b.y2 y

-- the cells of row y that the triangle draws in the box are those from first to last, and there is at least one
pub record IsRowSpan (t : Corners) (y : ℤ) (clip : Box2) (first last : ℤ) : Type 0 where
  pub order : first ≤ℤ last
  pub cells : (x : ℤ) → (IsInBox clip x y × IsTrue (is_inside t x y)) ↔ IsBetween first last x

-- the least edge value of a cell of the triangle
abbrev pub least_value : Vertex → Vertex → ℤ
least_value p q = if is_kept_edge p q then pos 0 else pos 1
