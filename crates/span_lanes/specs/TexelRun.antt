-- Contiguous texels in a row of video memory.
use Rattle.std.specs.Prelude.{ℕ, ◌≡◌, ◌≤◌, ◌<◌, ◌+◌, ◌/◌}
use Rattle.texture_page.specs.Page.{windowed}
use Rattle.span_lanes.specs.declared.texels.texel_run.TexelRun.{TexelRun}
use Rattle.texel_lanes.specs.declared.texture.Texture.{Texture}
use Rattle.span_lanes.specs.declared.span.Span.{Span}
use Rattle.span_lanes.specs.Paints.{paint_u, paint_v}

-- the texels of a span are contiguous in a row of video memory, and the cells that are read for them do not wrap.
-- With texels of fifteen bits these are the texels' own cells. With smaller texels they are sixteen cells from the
-- cell of any of them on.
pub record IsTexelRun (span : Span) (t : Texture) (texel_run : TexelRun) : Type 0 where
  pub low : texel_run.y ≤ t.page.y + 255
  pub in_page : texel_run.u + span.n ≤ 256
  pub wholes : 2 ≤ t.page.depth → t.page.x + (texel_run.u + span.n) ≤ 1024
  pub eights : t.page.depth ≡ 1 → t.page.x + (texel_run.u + span.n) / 2 + 16 ≤ 1024
  pub fours : t.page.depth ≡ 0 → t.page.x + (texel_run.u + span.n) / 4 + 16 ≤ 1024
  pub column : (i : ℕ) → i < span.n
      → windowed t.window.mask_x t.window.off_x (paint_u span.paint (span.x + i) span.y i) ≡ texel_run.u + i
  pub row : (i : ℕ) → i < span.n
      → t.page.y + windowed t.window.mask_y t.window.off_y (paint_v span.paint (span.x + i) span.y i) ≡ texel_run.y

-- the columns of a span's texels increase by 1 from cell to cell until they wrap, and their row is the same
pub record IsRising (span : Span) (u v : ℕ) : Type 0 where
  pub column : (i : ℕ) → i < span.n → u + i ≤ 255 → paint_u span.paint (span.x + i) span.y i ≡ u + i
  pub row : (i : ℕ) → i < span.n → paint_v span.paint (span.x + i) span.y i ≡ v
