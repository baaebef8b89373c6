use Rattle.span_lanes.proofs.HazardFreeLemmas.{chunks_free, page_apart}
use Rattle.span_lanes.proofs.hazard.is_clip_hazard_free.Goals as goal

pub returns-then-is_clip_outside_page : goal.returns-then-is_clip_outside_page
returns-then-is_clip_outside_page c off = record {
  hazard_free = λ s of_paint is within.
      let t = c.args.texture.now in
      let outside = c.is_clip_outside_page.ensures c.if-is_clip_outside_page.true s.x s.y s.n within in
      let texels = page_apart s t is c.requires.texture outside in
      chunks_free s t is of_paint texels (c.is_clip_off_clut.ensures off s.x s.y s.n within);
}
