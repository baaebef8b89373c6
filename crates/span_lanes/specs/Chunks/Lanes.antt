-- Parts of the pixels of a chunk, lane by lane.
use Rattle.std.specs.Prelude.{ℕ, Bool, false, ◌==◌, ◌||◌, if◌then◌else◌, ◌≡◌, ◌+◌, ◌<◌, ◌≤◌, ◌⊎◌, ℤ, pos, List, Some}
use Rattle.std.specs.Prelude.{length, slice_index, slice_index_or}
use Rattle.px_num.specs.Lanes.{EachLane}
use Rattle.blend_dither.specs.Color.{IsShift, tone_of, red_of, green_of, blue_of}
use Rattle.vram_store.specs.Plot.{forced, is_kept, is_testing, written_over}
use Rattle.texel_lanes.specs.Texels.{AreCoordinates}
use Rattle.span_lanes.specs.declared.span.Brush.{Brush}
use Rattle.span_lanes.specs.declared.span.Paint.{Paint}
use Rattle.span_lanes.specs.declared.span.Span.{Span}
use Rattle.span_lanes.specs.Shade.{dither_of, shade}
use Rattle.span_lanes.specs.Paints.{paint_color, paint_u, paint_v}

-- sixteen channels of eight bits
pub record AreChannels (channels : List ℕ) : Type 0 where
  pub long : length channels ≡ 16
  pub bytes : EachLane (λ i. slice_index channels i ≤ 255)

-- the first n lanes are the channels of these colours
pub record HasColors (color : ℕ → ℕ) (n : ℕ) (r g b : List ℕ) : Type 0 where
  pub reds : AreChannels r
  pub greens : AreChannels g
  pub blues : AreChannels b
  pub red : (j : ℕ) → j < n → red_of (color j) ≡ slice_index r j
  pub green : (j : ℕ) → j < n → green_of (color j) ≡ slice_index g j
  pub blue : (j : ℕ) → j < n → blue_of (color j) ≡ slice_index b j

-- the colours of a paint in a row, from (x, y) on
abbrev pub colors_from : Paint → ℕ → ℕ → ℕ → ℕ
colors_from paint x y j = paint_color paint (x + j) y

-- sixteen dither offsets, which may be 0
pub record AreDitherLanes (dither_lanes : List ℤ) : Type 0 where
  pub long : length dither_lanes ≡ 16
  pub small : EachLane (λ i. IsShift (slice_index_or dither_lanes i (pos 0)))

-- the dither offsets of the sixteen cells from (x, y) on, or zeros without dither
pub record AreDitherLanesAt (dither : Bool) (x y : ℕ) (dither_lanes : List ℤ) : Type 0 where
  pub small : AreDitherLanes dither_lanes
  pub value : EachLane (λ i. slice_index_or dither_lanes i (pos 0) ≡ dither_of dither (x + i) y)

-- a colour, reduced to five bits per channel with a dither offset
abbrev pub tone_with : ℕ → ℤ → ℕ
tone_with color shift = tone_of (red_of color) (green_of color) (blue_of color) shift

-- the columns and rows of the texels of a paint in a row, from (x, y) on, which is cell `first` of a span
abbrev pub columns_from : Paint → (x y first : ℕ) → ℕ → ℕ
columns_from paint x y first j = paint_u paint (x + j) y (first + j)

abbrev pub rows_from : Paint → (x y first : ℕ) → ℕ → ℕ
rows_from paint x y first j = paint_v paint (x + j) y (first + j)

-- the first n lanes are the coordinates of these texels
pub record HasCoordinates (column row : ℕ → ℕ) (n : ℕ) (us vs : List ℕ) : Type 0 where
  pub across : AreCoordinates us
  pub down : AreCoordinates vs
  pub u : (j : ℕ) → j < n → slice_index us j ≡ column j
  pub v : (j : ℕ) → j < n → slice_index vs j ≡ row j

-- h may replace the value of a cell when its pixel is computed: it equals the value, or pixels are neither blended
-- nor tested
abbrev pub DoesFor : Brush → ℕ → ℕ → Type 0
DoesFor brush cell h = (h ≡ cell) ⊎ ((brush.semi ≡ false) × (is_testing brush.mask ≡ false))

-- each cell of a span becomes the halfword h, whatever video memory contains
pub record IsSolid (span : Span) (h : ℕ) : Type 0 where
  pub same : (i : ℕ) (m now : List ℕ) → shade span i now ≡ shade span i m
  pub written : (i cell : ℕ) (m : List ℕ) → written_over span.brush.mask cell (shade span i m) ≡ Some h

-- the value of a cell after the halfword `plotted` of a texel is plotted over it
abbrev pub IsDrawnOver : (mask cell texel plotted after : ℕ) → Type 0
IsDrawnOver mask cell texel plotted after =
    after ≡ (if texel == 0 || is_kept mask cell then cell else forced mask plotted)
