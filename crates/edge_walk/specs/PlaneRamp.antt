-- Attributes of consecutive cells (our own rule).
use Rattle.std.specs.Prelude.{ℕ, List, ◌≡◌, ◌≤◌, ◌<◌, ◌+◌, pos, IsTrue, slice_index}
use Rattle.edge_walk.specs.Attribute.{attribute_at}
use Rattle.edge_walk.specs.Triangle.{Corners, is_inside}

-- the lanes have an attribute's values at those cells from (x, y) on that are inside. The row must have a cell inside
-- in column x or before.
abbrev pub AreAttributes : Corners → (which x y : ℕ) → (lanes : List ℕ) → Type 0
AreAttributes t which x y lanes = (from j : ℕ) → from ≤ x → IsTrue (is_inside t (pos from) (pos y)) → j < 16
    → IsTrue (is_inside t (pos (x + j)) (pos y)) → slice_index lanes j ≡ attribute_at t which (pos (x + j)) (pos y)
