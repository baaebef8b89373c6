use Rattle.std.proofs.Common.{◌∙◌}
use Rattle.span_lanes.proofs.RectangleLemmas.{same_rows}
use Rattle.span_lanes.proofs.rows.texel_rows.TexelRows.draw_clut16.Goals as goal

pub returns-then-opaque : goal.returns-then-opaque
returns-then-opaque g c =
    same_rows _ _ _ _ (c.known_opaque.ensures ∙ c.known_raw-rows.ensures) c.draw_by.ensures

pub returns-else-opaque : goal.returns-else-opaque
returns-else-opaque g c = same_rows _ _ _ _ c.known_raw-rows.ensures c.draw_by-else-opaque.ensures

pub returns-then-opaque-2 : goal.returns-then-opaque-2
returns-then-opaque-2 g c =
    same_rows _ _ _ _ (c.known_opaque-then-opaque-2.ensures ∙ c.known_raw-rows-else-self.ensures)
    c.draw_by-then-opaque-2.ensures

pub returns-else-opaque-2 : goal.returns-else-opaque-2
returns-else-opaque-2 g c = same_rows _ _ _ _ c.known_raw-rows-else-self.ensures c.draw_by-else-opaque-2.ensures
