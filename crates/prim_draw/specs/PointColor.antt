-- Points that are drawn as one halfword, whatever the position and value of their cells.
use Rattle.std.specs.Prelude.{ℕ, List, ◌<◌, ◌≡◌, true, pos, ◌≤ℤ◌, ◌<ℤ◌}
use Rattle.px_num.specs.Fold.{each_below}
use Rattle.px_num.specs.declared.shape.Box2.{Box2}
use Rattle.px_num.specs.declared.shape.Cell.{Cell}
use Rattle.px_num.specs.declared.shape.Vertex.{Vertex}
use Rattle.line_walk.specs.Line.{Ends, len_of, point_of}
use Rattle.span_lanes.specs.declared.span.Brush.{Brush}
use Rattle.vram_store.specs.Vram.{set}
use Rattle.prim_draw.specs.Lines.{cell_of, drawn_point, is_in, plotted}

-- a colour is plotted as this halfword in every cell
abbrev pub IsPointColor : Brush → (color point_color : ℕ) → Type 0
IsPointColor brush color point_color = (cell : Cell) → (m : List ℕ)
    → plotted brush cell color m ≡ set m cell.x cell.y point_color

-- a point is in the drawing area, and is drawn as this halfword
pub record IsInked (area : Box2) (brush : Brush) (p : Vertex) (point_color : ℕ) : Type 0 where
  pub inside : is_in area p ≡ true
  pub drawn : (m : List ℕ) → drawn_point area brush p m ≡ set m (cell_of p).x (cell_of p).y point_color

-- each point of a segment is so
abbrev pub ArePointsColored : Box2 → Brush → Ends → ℕ → Type 0
ArePointsColored area brush s point_color = (k : ℕ) → k < len_of s → IsInked area brush (point_of s k) point_color

-- a point in video memory of this height, at most 1024
pub record IsInMemory (height : ℕ) (p : Vertex) : Type 0 where
  pub left : pos 0 ≤ℤ p.x
  pub right : p.x <ℤ pos 1024
  pub top : pos 0 ≤ℤ p.y
  pub bottom : p.y <ℤ pos height
  pub reach : p.y <ℤ pos 1024

-- the first n points of a segment become this halfword
abbrev pub colored_points : Ends → ℕ → ℕ → List ℕ → List ℕ
colored_points s point_color n m =
    each_below (λ k cells. let cell = cell_of (point_of s k) in set cells cell.x cell.y point_color) n m
