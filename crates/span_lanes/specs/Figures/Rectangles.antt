-- All cells of a clip rectangle, row by row.
use Rattle.std.specs.Prelude.{ℕ, ◌+◌, ◌<◌, ◌≤◌}
use Rattle.texel_lanes.specs.Texture.{HasPage, IsTexture}
use Rattle.span_lanes.specs.Figures.Boxes.{clip_row}
use Rattle.span_lanes.specs.Cells.{Stage}
use Rattle.span_lanes.specs.ClipRect.{IsClipRect}
use Rattle.span_lanes.specs.Pattern.{Pattern, uniform}
use Rattle.span_lanes.specs.Figures.Rows.{DrawsRows, Figure, PaintsAs}
use Rattle.span_lanes.specs.Shade.{IsBrush}
use Rattle.span_lanes.specs.Figures.SolidColor.{flat_state}
use Rattle.span_lanes.specs.TexelRows.{rows_pattern}
use Rattle.span_lanes.specs.declared.rows.texel_rows.TexelRows.{TexelRows}
use Rattle.span_lanes.specs.declared.span.Brush.{Brush}
use Rattle.span_lanes.specs.declared.span.ClipRect.{ClipRect}
use Rattle.span_lanes.specs.declared.span.Run.{Run}

-- the figure of all its cells
abbrev pub clip_figure : Pattern → ClipRect → Figure
clip_figure p b = record { pattern = p; row = clip_row b; top = b.y }

-- all its cells were drawn; stages are video memory and the number of steps before and after
abbrev pub DrawsClip : Pattern → ClipRect → (before after : Stage) → Type 0
DrawsClip p b before after = DrawsRows (clip_figure p b) b.h before after

-- ---- one colour

-- a clip rectangle that can be drawn with these pixel settings, in video memory of a height
pub record CanDrawFlat (height : ℕ) (brush : Brush) (b : ClipRect) : Type 0 where
  pub is : IsBrush brush
  pub small : IsClipRect 1024 b
  pub in_height : IsClipRect height b

abbrev pub DrawsFlat : (color : ℕ) → Brush → ClipRect → (before after : Stage) → Type 0
DrawsFlat color brush b before after = DrawsClip (uniform (flat_state color brush)) b before after

-- ---- rows of texels

-- rows of texels that can be drawn in video memory of a height
pub record CanDrawTexelRows (height : ℕ) (rows : TexelRows) : Type 0 where
  pub is : IsBrush rows.brush
  pub texture : IsTexture rows.texture
  pub page : HasPage height rows.texture
  pub small : IsClipRect 1024 rows.clip_rect
  pub in_height : IsClipRect height rows.clip_rect

-- the cells of any row of a clip rectangle
abbrev pub whole_run : ClipRect → Run
whole_run b = record { x = b.x; n = b.w }

-- a pattern has their pixels
abbrev pub PaintsTexels : Pattern → TexelRows → Type 0
PaintsTexels p rows = (y : ℕ) → rows.clip_rect.y ≤ y → y < rows.clip_rect.y + rows.clip_rect.h
    → PaintsAs p (rows_pattern rows) y (whole_run rows.clip_rect)

-- their cells were drawn, with any pattern that has their pixels
abbrev pub DrawsTexelRows : TexelRows → (before after : Stage) → Type 0
DrawsTexelRows rows before after = (p : Pattern) → PaintsTexels p rows → DrawsClip p rows.clip_rect before after
