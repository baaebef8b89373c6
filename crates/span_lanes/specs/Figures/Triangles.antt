-- The rows of a triangle in a box, one after another (the choice of cells is our own rule).
use Rattle.std.specs.Prelude.{ℕ, ◌≡◌, ◌≤◌, ◌+◌, List, Bool, Option, None, Some, IfSome, pos, ◌≤ℤ◌}
use Rattle.std.specs.List.{filter}
use Rattle.px_num.specs.declared.shape.Box2.{Box2}
use Rattle.px_num.specs.declared.shape.Cell.{Cell}
use Rattle.edge_walk.specs.Extent.{bounding_box}
use Rattle.edge_walk.specs.Triangle.{Corners, is_inside}
use Rattle.edge_walk.specs.Walk.{AreRows}
use Rattle.edge_walk.specs.declared.row_scan.RowScan.{RowScan}
use Rattle.texel_lanes.specs.Texture.{HasPage, IsTexture}
use Rattle.span_lanes.specs.Figures.Boxes.{IsOnScreen, LiesInBox, clip_rect_of}
use Rattle.span_lanes.specs.Cells.{Stage, row_cells}
use Rattle.span_lanes.specs.Pattern.{uniform}
use Rattle.span_lanes.specs.Figures.Rows.{DrawsRows, Figure}
use Rattle.span_lanes.specs.Shade.{AreInside, IsBrush}
use Rattle.span_lanes.specs.declared.figures.triangle.TrianglePaint.{TrianglePaint}
use Rattle.span_lanes.specs.declared.figures.triangle.TrianglePaint.TheVariants.{OneColor, Gouraud, Textured}
use Rattle.span_lanes.specs.declared.figures.triangle.TriangleRows.{TriangleRows}
use Rattle.span_lanes.specs.declared.figures.triangle.TriangleState.{TriangleState}
use Rattle.texel_lanes.specs.declared.texture.Texture.{Texture}
use Rattle.span_lanes.specs.declared.span.ClipRect.{ClipRect}
use Rattle.span_lanes.specs.declared.span.DrawState.{DrawState}
use Rattle.span_lanes.specs.declared.span.Paint.{Paint}
use Rattle.span_lanes.specs.declared.span.Paint.TheVariants.{Flat, Shaded, TexturedTri}
use Rattle.span_lanes.specs.declared.span.Run.{Run}

-- the triangle draws this cell, unless it is clipped
abbrev pub draws : Corners → Cell → Bool
draws t cell = is_inside t (pos cell.x) (pos cell.y)

-- the cells of row y of a clip rectangle that the triangle draws
abbrev pub row_inside : Corners → ClipRect → ℕ → List Cell
row_inside t b y = filter (draws t) (row_cells b.x y b.w)

-- consecutive cells of row y that a triangle draws
pub record IsRun (t : Corners) (y : ℕ) (run : Run) : Type 0 where
  pub some : 1 ≤ run.n
  pub in_row : run.x + run.n ≤ 1024
  pub inside : AreInside t run.x y run.n

-- the paint of the cells of a triangle: one colour, or its own colours or texels
abbrev pub paint_with : TrianglePaint → Corners → Paint
paint_with (OneColor color) t = Flat color
paint_with Gouraud t = Shaded t
paint_with (Textured texture) t = TexturedTri t texture

-- their draw state
abbrev pub state_with : TriangleState → Corners → DrawState
state_with state t = record { paint = paint_with state.paint t; brush = state.brush }

-- the texture of a triangle, if it has one
abbrev pub texture_with : TrianglePaint → Option Texture
texture_with (Textured texture) = Some texture
texture_with paint = None

-- a draw state that can be used in video memory of this height
pub record IsTriangleState (height : ℕ) (state : TriangleState) : Type 0 where
  pub brush : IsBrush state.brush
  pub texture : IfSome (texture_with state.paint) IsTexture
  pub page : IfSome (texture_with state.paint) (HasPage height)

-- the rows of a triangle in a box can be drawn, in video memory of a height
pub record CanDrawTriangle (height : ℕ) (state : TriangleState) (t : Corners) (clip : Box2) : Type 0 where
  pub is : IsTriangleState height state
  pub small : IsOnScreen 1024 clip
  pub in_height : IsOnScreen height clip
  pub inside : LiesInBox (bounding_box t) clip

-- ---- the rows one after another

-- the next row of a scan is this one, of a triangle in a box of video memory
pub record IsScanRow (t : Corners) (clip : Box2) (y : ℕ) (rows : RowScan) : Type 0 where
  pub stands : AreRows t clip (pos y) rows
  pub on_screen : IsOnScreen 1024 clip
  pub in_box : pos y ≤ℤ clip.y2

-- the next row of a triangle in a box is this one, or the last was before it
pub record StandAt (rows : TriangleRows) (y : ℕ) : Type 0 where
  pub on_screen : IsOnScreen 1024 rows.clip.now
  pub clip_rect : rows.clip_rect ≡ clip_rect_of rows.clip.now
  pub stands : AreRows rows.tri.now rows.clip.now (pos y) rows.walk

-- they are those of this triangle in this box, from the first
pub record AreRowsIn (t : Corners) (clip : Box2) (rows : TriangleRows) : Type 0 where
  pub tri : rows.tri.now ≡ t
  pub clip_rect : rows.clip_rect ≡ clip_rect_of clip
  pub stand : StandAt rows (clip_rect_of clip).y

-- ---- what was drawn; stages are video memory and the number of steps before and after

-- the figure that a triangle draws in a box
abbrev pub triangle_figure : DrawState → Corners → Box2 → Figure
triangle_figure state t clip =
    record { pattern = uniform state; row = row_inside t (clip_rect_of clip); top = (clip_rect_of clip).y }

-- a triangle was drawn in a box
abbrev pub DrawsTriangle : DrawState → Corners → Box2 → (before after : Stage) → Type 0
DrawsTriangle state t clip before after = DrawsRows (triangle_figure state t clip) (clip_rect_of clip).h before after
