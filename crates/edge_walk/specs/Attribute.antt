-- Colour and texture coordinates of a triangle's cells (our own rule).
use Rattle.std.specs.Prelude.{ℕ, ◌+◌, ◌*◌, ◌/◌, ◌%◌, ◌^◌, ◌==◌, ◌≡◌, ◌≤◌, if◌then◌else◌, unsigned_abs, ℤ, pos, ◌-ℤ◌}
use Rattle.std.specs.Prelude.{◌*ℤ◌, ◌+ℤ◌, IsTrue}
use Rattle.px_num.specs.declared.shape.Vertex.{Vertex}
use Rattle.edge_walk.specs.Triangle.{Corners, edge, doubled_area, oriented, is_inside}

-- red, green, blue, u and v of a vertex, numbered from 0
abbrev pub attribute : ℕ → Vertex → ℕ
attribute which v =
    if which == 0 then v.color % 256
    else (if which == 1 then v.color / 2 ^ 8 % 256
    else (if which == 2 then v.color / 2 ^ 16 % 256
    else (if which == 3 then v.u
    else v.v)))

-- the weight of an edge at a cell inside: its edge value
unfoldable pub weight : Vertex → Vertex → ℤ → ℤ → ℕ
weight p q x y = unsigned_abs (edge p q x y)

-- an attribute of an oriented triangle at a cell inside: each vertex is weighted by the edge opposite it
unfoldable pub mixed_of : Corners → ℕ → ℤ → ℤ → ℕ
mixed_of t which x y =
    (weight t.second t.third x y * attribute which t.first
    + weight t.third t.first x y * attribute which t.second
    + weight t.first t.second x y * attribute which t.third)
    / unsigned_abs (doubled_area t)

abbrev pub attribute_at : Corners → ℕ → ℤ → ℤ → ℕ
attribute_at t which x y = mixed_of (oriented t) which x y

-- the attribute of each vertex is a byte
pub record AreBytes (which : ℕ) (t : Corners) : Type 0 where
  pub first : attribute which t.first ≤ 255
  pub second : attribute which t.second ≤ 255
  pub third : attribute which t.third ≤ 255

-- the increment of an attribute's sum from one cell of a row to the next
abbrev pub step_of : Corners → ℕ → ℤ
step_of t which =
    pos 0 -ℤ pos (attribute which t.first) *ℤ (t.third.y -ℤ t.second.y)
    -ℤ pos (attribute which t.second) *ℤ (t.first.y -ℤ t.third.y)
    -ℤ pos (attribute which t.third) *ℤ (t.second.y -ℤ t.first.y)

-- the increment of the sum from one row to the next
abbrev pub row_step_of : Corners → ℕ → ℤ
row_step_of t which =
    pos 0 -ℤ pos (attribute which t.first) *ℤ (t.second.x -ℤ t.third.x)
    -ℤ pos (attribute which t.second) *ℤ (t.third.x -ℤ t.first.x)
    -ℤ pos (attribute which t.third) *ℤ (t.first.x -ℤ t.second.x)

-- a 24-bit colour is that of a cell
pub record HasColor (t : Corners) (x y : ℤ) (color : ℕ) : Type 0 where
  pub red : attribute_at t 0 x y ≡ color % 256
  pub green : attribute_at t 1 x y ≡ color / 256 % 256
  pub blue : attribute_at t 2 x y ≡ color / 65536 % 256

-- along each row, u increases by 1 from cell to cell inside, and v does not change
pub record IsUnscaled (t : Corners) : Type 0 where
  pub across : (x y : ℤ) (i : ℕ) → IsTrue (is_inside t x y) → IsTrue (is_inside t (x +ℤ pos i) y)
      → attribute_at t 3 (x +ℤ pos i) y ≡ attribute_at t 3 x y + i
  pub down : (x y : ℤ) (i : ℕ) → IsTrue (is_inside t x y) → IsTrue (is_inside t (x +ℤ pos i) y)
      → attribute_at t 4 (x +ℤ pos i) y ≡ attribute_at t 4 x y
