-- A triangle in a box, with its clip rectangle and its draw state.
use Rattle.std.specs.Prelude.{ℕ, ◌≡◌}
use Rattle.edge_walk.specs.Extent.{bounding_box}
use Rattle.span_lanes.specs.Figures.Boxes.{IsOnScreen, LiesInBox, clip_rect_of}
use Rattle.span_lanes.specs.Cells.{Stage}
use Rattle.span_lanes.specs.Figures.Triangles.{CanDrawTriangle, DrawsTriangle, state_with}
use Rattle.span_lanes.specs.declared.figures.triangle.ClippedTriangle.{ClippedTriangle}
use Rattle.span_lanes.specs.declared.figures.triangle.TrianglePaint.TheVariants.{Textured}
use Rattle.span_lanes.specs.declared.span.DrawState.{DrawState}
use Rattle.texel_lanes.specs.declared.texture.Texture.{Texture}

-- its box is in video memory and in the triangle's bounds, and its clip rectangle is that of the box
pub record IsClipped (triangle : ClippedTriangle) : Type 0 where
  pub small : IsOnScreen 1024 triangle.clip.now
  pub inside : LiesInBox (bounding_box triangle.tri.now) triangle.clip.now
  pub clip_rect : triangle.clip_rect ≡ clip_rect_of triangle.clip.now

-- its rows can be drawn in video memory of a height
pub record CanDrawClipped (height : ℕ) (triangle : ClippedTriangle) : Type 0 where
  pub can : CanDrawTriangle height triangle.state triangle.tri.now triangle.clip.now
  pub clip_rect : triangle.clip_rect ≡ clip_rect_of triangle.clip.now

-- its cells have this texture
abbrev pub HasTexture : ClippedTriangle → Texture → Type 0
HasTexture triangle t = triangle.state.paint ≡ Textured t

-- the draw state of its cells
abbrev pub drawn_state : ClippedTriangle → DrawState
drawn_state triangle = state_with triangle.state triangle.tri.now

-- it was drawn; stages are video memory and the number of steps before and after
abbrev pub DrawsClipped : ClippedTriangle → (before after : Stage) → Type 0
DrawsClipped triangle before after =
    DrawsTriangle (drawn_state triangle) triangle.tri.now triangle.clip.now before after
