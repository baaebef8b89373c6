-- Rectangles, cell by cell (psx-spx, "GPU Render Rectangle Commands"; that flips count modulo 256 is our own rule).
use Rattle.std.specs.Prelude.{ℕ, ◌≤◌, ◌≤ℤ◌, negsuc, ◌==◌, ◌+◌, List, Option, None, Some, IfSome, Bool, false, ◌||◌}
use Rattle.std.specs.Prelude.{if◌then◌else◌, unsigned_abs, ℤ, pos, ◌+ℤ◌, ◌-ℤ◌}
use Rattle.px_num.specs.declared.shape.Box2.{Box2}
use Rattle.px_num.specs.declared.shape.Cell.{Cell}
use Rattle.gp1_status.specs.Drawing.{flips_in, offset_x, offset_y}
use Rattle.gp1_status.specs.Registers.{Registers}
use Rattle.span_lanes.specs.declared.span.Paint.{Paint}
use Rattle.span_lanes.specs.declared.span.Paint.TheVariants.{Flat, TexturedRow}
use Rattle.texel_lanes.specs.declared.texture.Texture.{Texture}
use Rattle.texel_lanes.specs.Texture.{HasPage, IsTexture}
use Rattle.span_lanes.specs.Shade.{IsBrush, row_u}
use Rattle.span_lanes.specs.Figures.Boxes.{clip_rect_of}
use Rattle.prim_draw.specs.Boxes.{cells_of, clipped}
use Rattle.span_lanes.specs.Pattern.{Pattern, painted_cells}
use Rattle.prim_draw.specs.Settings.{brush_in, texture_in}
use Rattle.span_lanes.specs.declared.span.ClipRect.{ClipRect}
use Rattle.prim_draw.specs.declared.rectangles.Extent.{Extent}
use Rattle.prim_draw.specs.declared.rectangles.RectangleSetup.{RectangleSetup}
use Rattle.prim_draw.specs.declared.settings.Style.{Style}

-- w by h cells, whose first is moved by the drawing offset
unfoldable pub extent_at : Registers → ℤ → ℤ → ℕ → ℕ → Extent
extent_at r x y w h = record { left = x +ℤ offset_x r; top = y +ℤ offset_y r; w = w; h = h }

-- an extent that vertices and offsets can reach, and that is no larger than a rectangle can be
pub record IsExtent (e : Extent) : Type 0 where
  pub left : negsuc 2047 ≤ℤ e.left
  pub right : e.left ≤ℤ pos 2046
  pub top : negsuc 2047 ≤ℤ e.top
  pub bottom : e.top ≤ℤ pos 2046
  pub wide : e.w ≤ 1023
  pub high : e.h ≤ 511

-- the box of an extent, from its first cell to its last
abbrev pub cells_box : Extent → Box2
cells_box e = record {
  x1 = e.left;
  y1 = e.top;
  x2 = e.left +ℤ pos e.w -ℤ pos 1;
  y2 = e.top +ℤ pos e.h -ℤ pos 1;
}

-- the box of a rectangle in the drawing area: none if it has no cell there
unfoldable pub rectangle_box : Registers → Extent → Option Box2
rectangle_box r e = if (e.w == 0) || (e.h == 0) then None else clipped r (cells_box e)

abbrev pub optional_texture : Registers → Bool → ℕ → Bool → Option Texture
optional_texture r textured clut raw = if textured then Some (texture_in r clut raw) else None

-- the setup of a rectangle; it is never dithered
unfoldable pub rectangle_setup_in : Registers → Style → (u v : ℕ) → RectangleSetup
rectangle_setup_in r style u v = record {
  color = style.color;
  texture = optional_texture r style.textured style.clut style.raw;
  u = u;
  v = v;
  flip_x = (flips_in r).x;
  flip_y = (flips_in r).y;
  brush = brush_in r style.semi false;
}

-- the paint of the cells of a row from this column and row of the whole rectangle on
abbrev pub paint_from : RectangleSetup → Option Texture → ℕ → ℕ → Paint
paint_from rectangle_setup None column row = Flat rectangle_setup.color
paint_from rectangle_setup (Some texture) column row =
    TexturedRow rectangle_setup.color texture (row_u rectangle_setup.u rectangle_setup.flip_x column)
    (row_u rectangle_setup.v rectangle_setup.flip_y row) rectangle_setup.flip_x

unfoldable pub rectangle_paint : RectangleSetup → ℕ → ℕ → Paint
rectangle_paint rectangle_setup column row = paint_from rectangle_setup rectangle_setup.texture column row

-- the column and the row of a cell in the whole rectangle
abbrev pub column_of : Extent → Cell → ℕ
column_of e cell = unsigned_abs (pos cell.x -ℤ e.left)

abbrev pub row_of : Extent → Cell → ℕ
row_of e cell = unsigned_abs (pos cell.y -ℤ e.top)

-- the pattern of its cells
abbrev pub pattern_of : RectangleSetup → Extent → Pattern
pattern_of rectangle_setup e =
    record {
      paint = λ cell. rectangle_paint rectangle_setup (column_of e cell) (row_of e cell);
      brush = rectangle_setup.brush;
    }

-- a clip rectangle within the 1023 columns and 1023 rows from the rectangle's first cell on
pub record IsPartOf (e : Extent) (b : ClipRect) : Type 0 where
  pub left : e.left ≤ℤ pos b.x
  pub top : e.top ≤ℤ pos b.y
  pub right : pos (b.x + b.w) ≤ℤ (e.left +ℤ pos 1023)
  pub bottom : pos (b.y + b.h) ≤ℤ (e.top +ℤ pos 1023)

-- a setup that can be drawn in video memory of this height
pub record IsRectangleSetup (height : ℕ) (rectangle_setup : RectangleSetup) : Type 0 where
  pub brush : IsBrush rectangle_setup.brush
  pub texture : IfSome rectangle_setup.texture IsTexture
  pub page : IfSome rectangle_setup.texture (HasPage height)

-- all cells of a box, in scan order
abbrev pub drawn_all : RectangleSetup → Extent → Option Box2 → List ℕ → List ℕ
drawn_all rectangle_setup e None m = m
drawn_all rectangle_setup e (Some b) m = painted_cells (pattern_of rectangle_setup e) (cells_of (clip_rect_of b)) m

unfoldable pub drawn_rectangle : Registers → RectangleSetup → Extent → List ℕ → List ℕ
drawn_rectangle r rectangle_setup e m = drawn_all rectangle_setup e (rectangle_box r e) m
