-- The texel coordinates of the cells of a span, by cell number.
use Rattle.std.specs.Prelude.{ℕ, List, ◌≡◌, ◌+◌, ◌<◌, pos, IsTrue}
use Rattle.edge_walk.specs.Line.{line_value}
use Rattle.edge_walk.specs.Triangle.{Corners, is_inside}
use Rattle.span_lanes.specs.declared.span.Chunk.{Chunk}
use Rattle.span_lanes.specs.declared.attributes.tex_coords.CoordAlongRow.{CoordAlongRow}
use Rattle.span_lanes.specs.declared.attributes.tex_coords.CoordAlongRow.TheVariants.{Line, Row, Same}
use Rattle.span_lanes.specs.declared.attributes.tex_coords.TexCoords.{TexCoords}
use Rattle.span_lanes.specs.declared.span.Paint.{Paint}
use Rattle.texel_lanes.specs.declared.texture.Texture.{Texture}
use Rattle.span_lanes.specs.Draws.{CanSample, IsChunk}
use Rattle.span_lanes.specs.Shade.{row_u, attribute_in}
use Rattle.span_lanes.specs.Paints.{paint_u, paint_v}

-- one coordinate of the texel of cell `at + j`
abbrev pub coord_at : CoordAlongRow → ℕ → ℕ → ℕ
coord_at (Line line) at j = line_value line at j
coord_at (Row u flip) at j = row_u u flip (at + j)
coord_at (Same v) at j = v

-- the coordinates of n cells are those of a paint from (x, y) on
pub record AreTexCoords (paint : Paint) (x y n : ℕ) (coords : TexCoords) : Type 0 where
  pub u : (at j : ℕ) → j < 16 → at + j < n → coord_at coords.u at j ≡ paint_u paint (x + (at + j)) y (at + j)
  pub v : (at j : ℕ) → j < 16 → at + j < n → coord_at coords.v at j ≡ paint_v paint (x + (at + j)) y (at + j)

-- the texels of a chunk can be read by their coordinates; `found` states that these can be computed
pub record CanRead (t : Texture) (p : Chunk) (found : Type 0) (m : List ℕ) : Type 0 where
  pub sample : CanSample p.span.now t m
  pub places : found
  pub chunk : IsChunk p

-- a coordinate is a triangle's attribute at its cells inside, from (x, y) on
abbrev pub IsCoordAlong : Corners → (which x y : ℕ) → CoordAlongRow → Type 0
IsCoordAlong tri which x y along =
    (at j : ℕ) → j < 16 → IsTrue (is_inside tri (pos (x + (at + j))) (pos y))
    → coord_at along at j ≡ attribute_in tri which (x + (at + j)) y
