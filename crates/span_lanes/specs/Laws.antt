-- Laws on spans and their cost.
use Rattle.std.specs.Prelude.{ℕ, ◌≡◌, ◌*◌, ◌≤◌, List, true, false}
use Rattle.texture_page.specs.declared.page.Page.{Page}
use Rattle.span_lanes.specs.declared.span.Paint.TheVariants.{TexturedRow}
use Rattle.span_lanes.specs.declared.span.Span.{Span}
use Rattle.texel_lanes.specs.declared.texture.Texture.{Texture}
use Rattle.span_lanes.specs.Cells.{drawn_cells, row_cells}
use Rattle.span_lanes.specs.Shade.{drawn_span, shade_at}
use Rattle.span_lanes.specs.Cost.{span_cost}

-- drawing a span by cell numbers equals drawing the cells of its row
abbrev pub SpanLaw : Type 0
SpanLaw =
    (span : Span) (n : ℕ) (m : List ℕ)
    → drawn_span span n m ≡ drawn_cells (shade_at span) span.brush.mask (row_cells span.x span.y n) m

-- a span costs at most four steps per cell
abbrev pub CostLaw : Type 0
CostLaw = (span : Span) → span_cost span ≤ 4 * span.n

-- a raw texture without a window, with the CLUT that begins at (0, 0)
abbrev pub raw_texture : Page → Texture
raw_texture page = record {
  page = page;
  window = record { mask_x = 0; mask_y = 0; off_x = 0; off_y = 0 };
  clut = 0;
  raw = true;
}

-- n cells from (x, y) on of raw texels, from the first texel of a page on, with the CLUT that begins at (0, 0)
abbrev pub raw_row : Page → ℕ → ℕ → ℕ → Span
raw_row page x y n = record {
  x = x;
  y = y;
  n = n;
  paint = TexturedRow 0 (raw_texture page) 0 0 false;
  brush = record { mask = 0; mode = 0; semi = false; dither = false };
}
