-- Rows of texels in the rows of a clip rectangle.
use Rattle.std.proofs.Common.{◌≡◌, ℕ, List, refl, subst, sym}
use Rattle.span_lanes.specs.Clut.CachedClut.{CanModulateClut, CanTakeTexels}
use Rattle.span_lanes.specs.Cells.{Stage}
use Rattle.span_lanes.specs.Draws.{DrawsSpan}
use Rattle.span_lanes.specs.Pattern.{run_span}
use Rattle.span_lanes.specs.SpanDrawer.{DrawsCells}
use Rattle.span_lanes.specs.Hazard.Guard.{IsHazardFree}
use Rattle.span_lanes.specs.TexelRows.{AreRowsContiguous, CanCacheRows, CanDrawTexels, IsWholeRow}
use Rattle.span_lanes.specs.TexelRows.{rows_pattern, texel_row, texel_span}
use Rattle.span_lanes.specs.TexelRun.{IsTexelRun}
use Rattle.span_lanes.specs.declared.span.Run.{Run}
use Rattle.span_lanes.specs.declared.span.Span.{Span}
use Rattle.span_lanes.specs.declared.rows.texel_rows.TexelRows.{TexelRows}
use Rattle.span_lanes.specs.declared.texels.texel_run.TexelRun.{TexelRun}
use Rattle.span_lanes.proofs.ChunkDrawLemmas.{draws_cells}

pub row_is : (rows : TexelRows) (y v : ℕ) (run : Run) → IsWholeRow rows.clip_rect y run → v ≡ texel_row rows y
    → run_span (rows_pattern rows) y run ≡ texel_span rows y v
row_is rows y v run whole v_is = rw (whole.first, whole.count, v_is) refl

pub row_drawn : (s t : Span) (before after : Stage) → s ≡ t → DrawsSpan t 0 before after → DrawsCells s before after
row_drawn s t before after is drawn =
    subst (λ (k : Span). DrawsCells k before after) (sym is) (draws_cells t before after drawn)

-- a contiguous row has no hazard
pub row_hazard_free : (rows : TexelRows) (y v : ℕ) (m : List ℕ) → AreRowsContiguous rows → CanDrawTexels rows y v m
    → IsHazardFree (texel_span rows y v)
row_hazard_free rows y v m contiguous asked =
    rw asked.row (contiguous.hazard_free.free y asked.in_clip.top asked.in_clip.bottom
    (rw asked.row at asked.can.span))

-- a contiguous row
pub can_take_row : (rows : TexelRows) (y v : ℕ) (texel_run : TexelRun) (m : List ℕ) → AreRowsContiguous rows
    → CanDrawTexels rows y v m → IsTexelRun (texel_span rows y v) rows.texture texel_run
    → CanTakeTexels (texel_span rows y v) rows.texture (IsTexelRun (texel_span rows y v) rows.texture texel_run) m
can_take_row rows y v texel_run m contiguous asked finds = record {
  sample = record { can = asked.can; texture = refl };
  hazard_free = row_hazard_free rows y v m contiguous asked;
  finds = finds;
}

-- a row whose CLUT can be modulated once for all rows
pub can_color_row : (d : ℕ) (rows : TexelRows) (y v : ℕ) (m : List ℕ) → CanCacheRows d rows
    → CanDrawTexels rows y v m → CanModulateClut d (texel_span rows y v) rows.texture rows.color m
can_color_row d rows y v m keeps asked = record {
  sample = record { can = asked.can; texture = refl };
  suits = record {
    hazard_free = row_hazard_free rows y v m keeps.contiguous asked;
    depth = keeps.depth;
    even = keeps.even;
  };
  one_color = λ at j lane lt. refl;
}
