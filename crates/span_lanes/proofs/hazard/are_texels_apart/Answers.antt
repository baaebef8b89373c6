use Rattle.span_lanes.proofs.HazardFreeLemmas.{page_apart}
use Rattle.span_lanes.proofs.RowsHazardLemmas.{rows_apart, whole_row}
use Rattle.span_lanes.proofs.hazard.are_texels_apart.Goals as goal

pub returns-then-is_clip_outside_page : goal.returns-then-is_clip_outside_page
returns-then-is_clip_outside_page c outside y top bottom is =
    let rows = c.args.rows.now in
    page_apart _ rows.texture is c.requires.texture
    (c.is_clip_outside_page.ensures c.if-is_clip_outside_page.true _ y _ (whole_row rows y top bottom))

pub returns-then-rise_together : goal.returns-then-rise_together
returns-then-rise_together c other y top bottom is =
    let together = c.rise_together.ensures in
    let rise = c.if-rise_together.true in
    rows_apart c.args.rows.now y (together.clear rise) (together.rises rise) (together.fits rise)
    (c.begin_apart.ensures other) top bottom
