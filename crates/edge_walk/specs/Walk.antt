-- The rows of a triangle from top to bottom (our own rule).
use Rattle.std.specs.Prelude.{ℕ, ◌+◌, ◌-◌, ◌*◌, ◌%◌, ◌^◌, ◌≤◌, ◌<◌, ◌≡◌, ◌↔◌, ℤ, pos, ◌+ℤ◌, ◌-ℤ◌, ◌*ℤ◌}
use Rattle.std.specs.Prelude.{◌≤ℤ◌, ◌<ℤ◌, unsigned_abs, FitsSigned}
use Rattle.std.specs.Int.{int_max, int_min, w32}
use Rattle.px_num.specs.declared.shape.Box2.{Box2}
use Rattle.px_num.specs.declared.shape.Vertex.{Vertex}
use Rattle.edge_walk.specs.declared.edge_stepper.Ends.{Ends}
use Rattle.edge_walk.specs.declared.edge_stepper.EdgeStepper.{EdgeStepper}
use Rattle.edge_walk.specs.declared.slope.Slope.{Slope}
use Rattle.edge_walk.specs.declared.slope.Bound.{Bound}
use Rattle.edge_walk.specs.declared.slope.Bound.TheVariants.{AtMost, Above}
use Rattle.edge_walk.specs.declared.row_scan.RowScan.{RowScan}
use Rattle.edge_walk.specs.Extent.{bounding_box}
use Rattle.edge_walk.specs.Row.{least_value}
use Rattle.edge_walk.specs.Triangle.{Corners, IsDrawn, IsSmall, IsTurn, oriented}

-- a column in units of 2^-30, plus 2^62 so that it is not negative
abbrev pub in_parts : ℤ → ℤ
in_parts x = x *ℤ pos (2 ^ 30) +ℤ pos (2 ^ 62)

-- the same in whole columns: plus 2^32
abbrev pub raised_column : ℤ → ℤ
raised_column x = x +ℤ pos (2 ^ 32)

-- an edge at position `at` admits column x, both in units of 2^-30
abbrev pub IsBounded : Bound → ℤ → ℤ → Type 0
IsBounded AtMost at x = x ≤ℤ at
IsBounded Above at x = at <ℤ x

-- a column is above the low end and at most the high end, in units of 2^-30
abbrev pub IsWithin : Ends → ℤ → Type 0
IsWithin ends x = IsBounded Above (pos ends.low) x × IsBounded AtMost (pos ends.high) x

-- 2^30 divided by a number of rows, rounded up
pub record ArePartsOver (rows parts : ℕ) : Type 0 where
  pub enough : 2 ^ 30 ≤ parts * rows
  pub close : parts * rows < 2 ^ 30 + rows
  pub most : parts ≤ 2 ^ 30

-- a slope describes the columns that the edge admits: v is the edge value in a row at the column of its first vertex
-- p. A column k columns from p, at most 1023, is admitted exactly if the edge value there is at least the least value
pub record IsSlope (p q : Vertex) (slope : Slope) : Type 0 where
  pub solves : (k v : ℤ) → unsigned_abs k ≤ 1023
      → (least_value p q ≤ℤ (v -ℤ (q.y -ℤ p.y) *ℤ k)) ↔ IsBounded slope.bound (v *ℤ slope.scale +ℤ slope.slack)
      (k *ℤ pos (2 ^ 30))
  pub scale : unsigned_abs slope.scale ≤ 2 ^ 41
  pub slack : unsigned_abs slope.slack ≤ 2 ^ 40

-- the value of the edge from p to q in row y, at p's column
abbrev pub start_value : Vertex → Vertex → ℤ → ℤ
start_value p q y = (q.x -ℤ p.x) *ℤ (y -ℤ p.y)

-- the edge from p to q in row y
pub record IsSide (p q : Vertex) (y : ℤ) (s : EdgeStepper) : Type 0 where
  pub slope : Slope
  pub is_slope : IsSlope p q slope
  pub bound : s.bound ≡ slope.bound
  pub start : FitsSigned w32 p.x
  pub at : pos s.at ≡ (in_parts p.x +ℤ (start_value p q y *ℤ slope.scale +ℤ slope.slack))
  pub raised : ℕ
  pub by : s.by ≡ (raised + (2 ^ 64 - 2 ^ 62)) % 2 ^ 64
  pub step : pos raised ≡ ((q.x -ℤ p.x) *ℤ slope.scale +ℤ pos (2 ^ 62))

-- a box all of whose rows are rows of the triangle's bounding box
pub record HasRows (t : Corners) (clip : Box2) : Type 0 where
  pub top : (bounding_box t).y1 ≤ℤ clip.y1
  pub some : clip.y1 ≤ℤ clip.y2
  pub bottom : clip.y2 ≤ℤ (bounding_box t).y2

-- a scan over the rows of a triangle in a box is at row y, or just below the box
pub record AreRows (t : Corners) (clip : Box2) (y : ℤ) (rows : RowScan) : Type 0 where
  pub small : IsSmall (oriented t)
  pub around : Corners
  pub turn : IsTurn (oriented t) around
  pub box : HasRows t clip
  pub above : clip.y1 ≤ℤ y
  pub below : y ≤ℤ (clip.y2 +ℤ pos 1)
  pub drawn : IsDrawn t
  pub left_fits : FitsSigned w32 (bounding_box t).x1
  pub right_fits : FitsSigned w32 (bounding_box t).x2
  pub low : pos rows.ends.low ≡ (in_parts (int_max clip.x1 (bounding_box t).x1) -ℤ pos 1)
  pub high : pos rows.ends.high ≡ in_parts (int_min clip.x2 (bounding_box t).x2)
  pub first : IsSide around.first around.second y rows.first
  pub second : IsSide around.second around.third y rows.second
  pub third : IsSide around.third around.first y rows.third
