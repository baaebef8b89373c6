-- The attributes of a triangle with their ramps, at the cells of a chunk.
use Rattle.std.proofs.Common.{◌≡◌, ◌≤◌, ◌<◌, ◌+◌, ℕ, List, get_or, arith}
use Rattle.edge_walk.specs.Plane.{IsPlane}
use Rattle.edge_walk.specs.PlaneRamp.{AreAttributes}
use Rattle.edge_walk.specs.declared.plane.Plane.{Plane}
use Rattle.edge_walk.specs.Triangle.{Corners}
use Rattle.texel_lanes.specs.Texels.{AreCoordinates}
use Rattle.span_lanes.specs.declared.span.Chunk.{Chunk}
use Rattle.span_lanes.specs.declared.attributes.ramps.ColorRamps.{ColorRamps}
use Rattle.span_lanes.specs.declared.attributes.ramps.CoordRamps.{CoordRamps}
use Rattle.span_lanes.specs.declared.span.Paint.{Paint}
use Rattle.span_lanes.specs.declared.span.Paint.TheVariants.{Flat, Shaded, TexturedTri, TexturedRow}
use Rattle.span_lanes.specs.Draws.{IsChunk}
use Rattle.span_lanes.specs.Chunks.Lanes.{AreChannels, HasColors, HasCoordinates, colors_from, columns_from, rows_from}
use Rattle.span_lanes.specs.Paints.{chunk_u, chunk_v}
use Rattle.span_lanes.specs.Attributes.AttributeRamps.{AreColorsOf, AreCoordRampsOf}
use Rattle.span_lanes.specs.Shade.{attribute_in, color_in, AreInside, HasInside, IsSpan}
use Rattle.span_lanes.proofs.ColorLemmas.{red_mixed, green_mixed, blue_mixed}
use Rattle.span_lanes.proofs.ShadingLemmas.{first_cell}

-- the lanes of a chunk are the attribute at its cells
pub part_lanes : (tri : Corners) (which x y n first k : ℕ) (lanes : List ℕ) → 1 ≤ n → AreInside tri x y n
    → first + k ≤ n → k ≤ 16 → AreAttributes tri which (x + first) y lanes
    → (j : ℕ) → j < k → get_or lanes j 0 ≡ attribute_in tri which (x + first + j) y
part_lanes tri which x y n first k lanes some inside within few are j lt =
    let cell : x + (first + j) ≡ x + first + j = omega arith in
    are x j (omega arith) (first_cell tri x y n some inside) (omega (arith, lt, few))
    (rw cell at (inside (first + j) (omega (arith, lt, within))))

-- lanes with the attribute of any triangle that the plane belongs to
abbrev pub FromPlane : Plane → (x y : ℕ) → (lanes : List ℕ) → Type 0
FromPlane plane x y lanes = (t : Corners) (which : ℕ) → IsPlane t which plane → AreAttributes t which x y lanes

-- the texel coordinates
of_paint : (paint : Paint) (x y n first k : ℕ) (coord_ramps : CoordRamps) (us vs : List ℕ) → 1 ≤ n
    → HasInside paint x y n
    → first + k ≤ n → k ≤ 16 → AreCoordRampsOf paint coord_ramps → AreCoordinates us → AreCoordinates vs
    → FromPlane coord_ramps.u.plane (x + first) y us → FromPlane coord_ramps.v.plane (x + first) y vs
    → HasCoordinates (columns_from paint (x + first) y first) (rows_from paint (x + first) y first) k us vs
of_paint (Flat color) x y n first k coord_ramps us vs some inside within few of across down u v = absurd (of)
of_paint (Shaded tri) x y n first k coord_ramps us vs some inside within few of across down u v = absurd (of)
of_paint (TexturedTri tri texture) x y n first k coord_ramps us vs some inside within few of across down u v = record {
  across = across;
  down = down;
  u = part_lanes tri 3 x y n first k us some inside within few (u tri 3 of.u);
  v = part_lanes tri 4 x y n first k vs some inside within few (v tri 4 of.v);
}
of_paint (TexturedRow color texture u0 v0 flip) x y n first k coord_ramps us vs some inside within few of across down u
    v =
    absurd (of)

pub coordinates_of : (p : Chunk) (coord_ramps : CoordRamps) (us vs : List ℕ) → IsSpan p.span.now → IsChunk p
    → AreCoordRampsOf p.span.now.paint coord_ramps → AreCoordinates us → AreCoordinates vs
    → FromPlane coord_ramps.u.plane (p.span.now.x + p.first) p.span.now.y us
    → FromPlane coord_ramps.v.plane (p.span.now.x + p.first) p.span.now.y vs
    → HasCoordinates (chunk_u p) (chunk_v p) p.k us vs
coordinates_of p coord_ramps us vs is chunk of across down u v =
    of_paint p.span.now.paint p.span.now.x p.span.now.y p.span.now.n p.first p.k coord_ramps us vs is.some is.inside
    chunk.within chunk.few of
    across down u v

-- three channels, lane by lane
pub record Channels : Type 0 where
  pub red : List ℕ
  pub green : List ℕ
  pub blue : List ℕ

-- the colours
mixed_of : (tri : Corners) (x y k : ℕ) (c : Channels) → k ≤ 16 → AreChannels c.red → AreChannels c.green
    → AreChannels c.blue
    → ((j : ℕ) → j < k → get_or c.red j 0 ≡ attribute_in tri 0 (x + j) y)
    → ((j : ℕ) → j < k → get_or c.green j 0 ≡ attribute_in tri 1 (x + j) y)
    → ((j : ℕ) → j < k → get_or c.blue j 0 ≡ attribute_in tri 2 (x + j) y)
    → HasColors (λ j. color_in tri (x + j) y) k c.red c.green c.blue
unfolding color_in
mixed_of tri x y k c few r g b red green blue = record {
  reds = r;
  greens = g;
  blues = b;
  red = λ j lt. let lane : j < 16 = omega (arith, lt, few) in
      rw (← red j lt, ← green j lt, ← blue j lt) (red_mixed _ _ _ (r.bytes j lane));
  green = λ j lt. let lane : j < 16 = omega (arith, lt, few) in
      rw (← red j lt, ← green j lt, ← blue j lt) (green_mixed _ _ _ (r.bytes j lane) (g.bytes j lane));
  blue = λ j lt. let lane : j < 16 = omega (arith, lt, few) in
      rw (← red j lt, ← green j lt, ← blue j lt) (blue_mixed _ _ _ (r.bytes j lane) (g.bytes j lane) (b.bytes j lane));
}

painted : (paint : Paint) (x y n first k : ℕ) (colors : ColorRamps) (c : Channels) → 1 ≤ n → HasInside paint x y n
    → first + k ≤ n → k ≤ 16 → AreColorsOf paint colors → AreChannels c.red → AreChannels c.green → AreChannels c.blue
    → FromPlane colors.red.plane (x + first) y c.red → FromPlane colors.green.plane (x + first) y c.green
    → FromPlane colors.blue.plane (x + first) y c.blue
    → HasColors (colors_from paint (x + first) y) k c.red c.green c.blue
painted (Flat color) x y n first k colors c some inside within few of r g b red green blue = absurd (of)
painted (Shaded tri) x y n first k colors c some inside within few of r g b red green blue =
    mixed_of tri (x + first) y k c few r g b
    (part_lanes tri 0 x y n first k c.red some inside within few (red tri 0 of.red))
    (part_lanes tri 1 x y n first k c.green some inside within few (green tri 1 of.green))
    (part_lanes tri 2 x y n first k c.blue some inside within few (blue tri 2 of.blue))
painted (TexturedTri tri texture) x y n first k colors c some inside within few of r g b red green blue =
    mixed_of tri (x + first) y k c few r g b
    (part_lanes tri 0 x y n first k c.red some inside within few (red tri 0 of.red))
    (part_lanes tri 1 x y n first k c.green some inside within few (green tri 1 of.green))
    (part_lanes tri 2 x y n first k c.blue some inside within few (blue tri 2 of.blue))
painted (TexturedRow color texture u v flip) x y n first k colors c some inside within few of r g b red green blue =
    absurd (of)

pub colors_of : (p : Chunk) (colors : ColorRamps) (c : Channels) → IsSpan p.span.now → IsChunk p
    → AreColorsOf p.span.now.paint colors → AreChannels c.red → AreChannels c.green → AreChannels c.blue
    → FromPlane colors.red.plane (p.span.now.x + p.first) p.span.now.y c.red
    → FromPlane colors.green.plane (p.span.now.x + p.first) p.span.now.y c.green
    → FromPlane colors.blue.plane (p.span.now.x + p.first) p.span.now.y c.blue
    → HasColors (colors_from p.span.now.paint (p.span.now.x + p.first) p.span.now.y) p.k c.red c.green c.blue
colors_of p colors c is chunk of r g b red green blue =
    painted p.span.now.paint p.span.now.x p.span.now.y p.span.now.n p.first p.k colors c is.some is.inside
    chunk.within chunk.few of r g b
    red green blue
