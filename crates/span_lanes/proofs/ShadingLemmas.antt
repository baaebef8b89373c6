-- The colours of a span, from those of its paint.
use Rattle.std.proofs.Common.{◌≡◌, ◌≤◌, ℕ, ◌+◌, IsTrue, pos, arith}
use Rattle.edge_walk.specs.Triangle.{Corners, is_inside}
use Rattle.edge_walk.specs.declared.plane.Plane.{Plane}
use Rattle.span_lanes.specs.declared.attributes.shading.RowColors.{RowColors}
use Rattle.span_lanes.specs.declared.attributes.shading.RowColors.TheVariants.{One}
use Rattle.span_lanes.specs.declared.attributes.shading.Shading.TheVariants.{OneColor, Planes}
use Rattle.span_lanes.specs.declared.span.Paint.{Paint}
use Rattle.span_lanes.specs.declared.span.Paint.TheVariants.{Flat, Shaded, TexturedTri, TexturedRow}
use Rattle.span_lanes.specs.Shade.{HasInside, AreInside}
use Rattle.span_lanes.specs.Attributes.RowColors.{AreRowColors, AreRowColorsOf}
use Rattle.span_lanes.specs.SpanDrawer.{IsShadingFor, IsShadingOf}

-- one colour
pub one_hues : (paint : Paint) (color x y n : ℕ) → IsShadingFor paint (OneColor color) → HasInside paint x y n
    → AreRowColors paint x y n (One color)
one_hues (Flat own) color x y n is inside = λ at j lane lt. let e : color ≡ own = cc in e
one_hues (Shaded tri) color x y n is inside = λ at j lane lt. is (x + (at + j)) y (inside (at + j) lt)
one_hues (TexturedTri tri texture) color x y n is inside = λ at j lane lt. is (x + (at + j)) y (inside (at + j) lt)
one_hues (TexturedRow own texture u v flip) color x y n is inside = λ at j lane lt. let e : color ≡ own = cc in e

-- the first cell of a row of a triangle
pub first_cell : (tri : Corners) (x y n : ℕ) → 1 ≤ n → AreInside tri x y n → IsTrue (is_inside tri (pos x) (pos y))
first_cell tri x y n some inside = let e : x + 0 ≡ x = omega arith in rw e at (inside 0 (omega arith))

-- three channels
pub planes_hues : (paint : Paint) (red green blue : Plane) (x y n : ℕ) (row_colors : RowColors) → 1 ≤ n
    → IsShadingFor paint (Planes red green blue) → HasInside paint x y n
    → ((tri : Corners) → IsShadingOf tri (Planes red green blue) → IsTrue (is_inside tri (pos x) (pos y))
    → AreRowColorsOf tri x y row_colors)
    → AreRowColors paint x y n row_colors
planes_hues (Flat own) red green blue x y n row_colors some is inside of = absurd (cc)
planes_hues (Shaded tri) red green blue x y n row_colors some is inside of = λ at j lane lt. of tri is
    (first_cell tri x y n some inside) at j lane (inside (at + j) lt)
planes_hues (TexturedTri tri texture) red green blue x y n row_colors some is inside of = λ at j lane lt. of tri is
    (first_cell tri x y n some inside) at j lane (inside (at + j) lt)
planes_hues (TexturedRow own texture u v flip) red green blue x y n row_colors some is inside of = absurd (cc)
