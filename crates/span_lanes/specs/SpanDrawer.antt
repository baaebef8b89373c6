-- A paint and a brush for many spans.
use Rattle.std.specs.Prelude.{ℕ, ◌≡◌, ◌≤◌, ◌+◌, length, pos, IsTrue}
use Rattle.edge_walk.specs.Plane.{IsPlane}
use Rattle.edge_walk.specs.Triangle.{Corners, is_inside}
use Rattle.span_lanes.specs.declared.attributes.tex_coords.CoordPlanes.{CoordPlanes}
use Rattle.span_lanes.specs.declared.span.DrawState.{DrawState}
use Rattle.span_lanes.specs.declared.span.Paint.{Paint}
use Rattle.span_lanes.specs.declared.span.Paint.TheVariants.{Flat, Shaded, TexturedTri, TexturedRow}
use Rattle.span_lanes.specs.declared.span.Span.{Span}
use Rattle.span_lanes.specs.declared.attributes.shading.Shading.{Shading}
use Rattle.span_lanes.specs.declared.attributes.shading.Shading.TheVariants.{OneColor, Planes}
use Rattle.span_lanes.specs.Cells.{Stage, drawn_cells, row_cells}
use Rattle.span_lanes.specs.Cost.{span_cost}
use Rattle.span_lanes.specs.Shade.{color_in, shade_at}

-- a span that is drawn with a draw state
abbrev pub state_span : DrawState → (x y n : ℕ) → Span
state_span state x y n = record { x = x; y = y; n = n; paint = state.paint; brush = state.brush }

abbrev pub state_of : Span → DrawState
state_of span = record { paint = span.paint; brush = span.brush }

-- the cells of a span were drawn one after another
pub record DrawsCells (s : Span) (before after : Stage) : Type 0 where
  pub cells : after.m ≡ drawn_cells (shade_at s) s.brush.mask (row_cells s.x s.y s.n) before.m
  pub long : length after.m ≡ length before.m
  pub cost : after.steps ≤ before.steps + span_cost s

-- ---- setups

-- the colours of a triangle
abbrev pub IsShadingOf : Corners → Shading → Type 0
IsShadingOf tri (OneColor color) = (x y : ℕ) → IsTrue (is_inside tri (pos x) (pos y)) → color ≡ color_in tri x y
IsShadingOf tri (Planes red green blue) = IsPlane tri 0 red × IsPlane tri 1 green × IsPlane tri 2 blue

-- the colours of a paint
abbrev pub IsShadingFor : Paint → Shading → Type 0
IsShadingFor (Flat color) shading = shading ≡ OneColor color
IsShadingFor (Shaded tri) shading = IsShadingOf tri shading
IsShadingFor (TexturedTri tri texture) shading = IsShadingOf tri shading
IsShadingFor (TexturedRow color texture u v flip) shading = shading ≡ OneColor color

-- the texel coordinates of a triangle
pub record AreCoordPlanes (tri : Corners) (coord_planes : CoordPlanes) : Type 0 where
  pub u : IsPlane tri 3 coord_planes.u
  pub v : IsPlane tri 4 coord_planes.v
