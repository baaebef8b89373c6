use Rattle.std.proofs.Common.{◌∙◌}
use Rattle.span_lanes.proofs.RectangleLemmas.{same_rows}
use Rattle.span_lanes.proofs.rows.texel_rows.TexelRows.draw_clut256.Goals as goal

pub returns-then-is_opaque : goal.returns-then-is_opaque
returns-then-is_opaque g c =
    same_rows _ _ _ _ (c.known_opaque.ensures ∙ c.known_raw-rows.ensures) c.draw_by.ensures

pub returns-else-is_opaque : goal.returns-else-is_opaque
returns-else-is_opaque g c = same_rows _ _ _ _ c.known_raw-rows.ensures c.draw_by-else-is_opaque.ensures
