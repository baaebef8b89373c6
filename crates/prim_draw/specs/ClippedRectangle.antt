-- Rectangles in a clip rectangle.
use Rattle.std.specs.Prelude.{ℕ, pos, ◌-ℤ◌, unsigned_abs}
use Rattle.span_lanes.specs.Cells.{Stage}
use Rattle.span_lanes.specs.ClipRect.{IsClipRect}
use Rattle.span_lanes.specs.Shade.{row_u}
use Rattle.span_lanes.specs.declared.rows.texel_rows.TexelRows.{TexelRows}
use Rattle.texel_lanes.specs.declared.texture.Texture.{Texture}
use Rattle.span_lanes.specs.Pattern.{Pattern}
use Rattle.prim_draw.specs.Rectangles.{IsExtent, IsPartOf, IsRectangleSetup, pattern_of}
use Rattle.span_lanes.specs.Figures.Rectangles.{DrawsClip}
use Rattle.prim_draw.specs.declared.rectangles.ClippedRectangle.{ClippedRectangle}

-- the cells of a rectangle in a clip rectangle can be drawn in video memory of a height
pub record CanDrawRectangle (height : ℕ) (rectangle : ClippedRectangle) : Type 0 where
  pub rectangle_setup : IsRectangleSetup height rectangle.rectangle_setup.now
  pub extent : IsExtent rectangle.extent.now
  pub part : IsPartOf rectangle.extent.now rectangle.clip_rect.now
  pub small : IsClipRect 1024 rectangle.clip_rect.now
  pub clip_rect : IsClipRect height rectangle.clip_rect.now

-- the pattern of such a rectangle
abbrev pub rectangle_pattern : ClippedRectangle → Pattern
rectangle_pattern rectangle = pattern_of rectangle.rectangle_setup.now rectangle.extent.now

-- the texels of such a rectangle, row by row
abbrev pub texels_of : ClippedRectangle → Texture → TexelRows
texels_of rectangle texture =
    let rectangle_setup = rectangle.rectangle_setup.now in
    record {
      color = rectangle_setup.color;
      texture = texture;
      u = row_u rectangle_setup.u rectangle_setup.flip_x
          (unsigned_abs (pos rectangle.clip_rect.now.x -ℤ rectangle.extent.now.left));
      flip = rectangle_setup.flip_x;
      v = row_u rectangle_setup.v rectangle_setup.flip_y
          (unsigned_abs (pos rectangle.clip_rect.now.y -ℤ rectangle.extent.now.top));
      falls = rectangle_setup.flip_y;
      brush = rectangle_setup.brush;
      clip_rect = rectangle.clip_rect.now;
    }

-- ---- what was drawn; stages are video memory and the number of steps before and after

abbrev pub DrawsRectangle : ClippedRectangle → (before after : Stage) → Type 0
DrawsRectangle rectangle before after = DrawsClip (rectangle_pattern rectangle) rectangle.clip_rect.now before after
