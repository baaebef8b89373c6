-- Rows of textured triangles.
use Rattle.std.proofs.Common.{ap, ℕ, List}
use Rattle.span_lanes.specs.declared.span.ClipRect.{ClipRect}
use Rattle.span_lanes.specs.declared.attributes.triangle_setup.TriangleSetup.{TriangleSetup}
use Rattle.span_lanes.specs.declared.span.Span.{Span}
use Rattle.span_lanes.specs.ClipRect.{IsInClip}
use Rattle.span_lanes.proofs.ShadingLemmas.{one_hues}
use Rattle.span_lanes.specs.TriangleDrawer.{CanCacheTriangle, CanDrawRow, IsFreeIn}
use Rattle.span_lanes.specs.Clut.CachedClut.{CanModulateClut}
use Rattle.span_lanes.specs.SpanDrawer.{state_of}
use Rattle.span_lanes.specs.Shade.{texture_of}
use Rattle.span_lanes.specs.Draws.{CanDraw}
use Rattle.span_lanes.specs.Attributes.TriangleSetup.{CanDrawSetup, IsSetupOf}

-- a row in a clip rectangle that has no cell of the texture can be drawn
pub can_draw_free : (b : ClipRect) (span : Span) (m : List ℕ) → IsFreeIn span.paint b → CanDraw span m
    → IsInClip b span.x span.y span.n → CanDrawRow span m
can_draw_free b span m is can in_clip = record {
  can = can;
  hazard_free = is.hazard_free.hazard_free span is.texture can.span in_clip;
}

-- by the set-up of its triangle
pub can_draw_row : (setup : TriangleSetup) (span : Span) (m : List ℕ) → IsSetupOf (state_of span) setup
    → CanDrawRow span m → CanDrawSetup setup span m
can_draw_row setup span m ready row = record { ready = ready; can = row.can; hazard_free = row.hazard_free }

-- and under its colour, if the CLUT can be modulated once
pub can_color_row : (setup : TriangleSetup) (span : Span) (m : List ℕ) (color : ℕ) → CanDrawSetup setup span m
    → CanCacheTriangle setup.tri setup.texture setup.brush color → CanModulateClut 0 span setup.texture color m
can_color_row setup span m color can suits = record {
  sample = record { can = can.can; texture = ap texture_of can.ready.paint };
  suits = record {
    hazard_free = can.hazard_free;
    depth = suits.depth;
    even = rw can.ready.brush suits.even;
  };
  one_color = one_hues span.paint color span.x span.y span.n (rw can.ready.paint suits.one) can.can.span.inside;
}
