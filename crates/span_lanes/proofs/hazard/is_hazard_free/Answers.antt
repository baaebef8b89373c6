use Rattle.span_lanes.proofs.HazardFreeLemmas.{chunks_free, page_apart}
use Rattle.span_lanes.proofs.hazard.is_hazard_free.Goals as goal

pub is_outside_page-requires-clause-texture : goal.is_outside_page-requires-clause-texture
is_outside_page-requires-clause-texture c = rw c.requires.texture at c.requires.span.texture

pub returns-then-is_outside_page : goal.returns-then-is_outside_page
returns-then-is_outside_page c off =
    let span = c.args.span.now in
    let t = c.args.texture.now in
    let outside = c.is_outside_page.ensures.0 c.if-is_outside_page.true in
    let texels = page_apart span t c.requires.span (rw c.requires.texture at c.requires.span.texture) outside in
    chunks_free span t c.requires.span c.requires.texture texels (c.is_off_clut.ensures off)
