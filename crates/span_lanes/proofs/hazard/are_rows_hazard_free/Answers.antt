use Rattle.std.proofs.Common.{refl}
use Rattle.span_lanes.proofs.HazardFreeLemmas.{chunks_free}
use Rattle.span_lanes.proofs.RowsHazardLemmas.{whole_row}
use Rattle.span_lanes.proofs.hazard.are_rows_hazard_free.Goals as goal

pub returns-then-are_texels_apart : goal.returns-then-are_texels_apart
returns-then-are_texels_apart c off = record {
  free = λ y top bottom is.
      let rows = c.args.rows.now in
      chunks_free _ rows.texture is refl
      (c.are_texels_apart.ensures c.if-are_texels_apart.true y top bottom is)
      (c.is_clip_off_clut.ensures off _ y _ (whole_row rows y top bottom));
}
