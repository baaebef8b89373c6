-- Contiguous texels.
use Rattle.std.proofs.Common.{◌≡◌, ◌<◌, ◌≤◌, ℕ, List, Bool, false, ◌+◌, ◌-◌, ◌*◌, ◌/◌, ◌%◌, get_or, refl, sym, ◌∙◌}
use Rattle.std.proofs.Common.{pos, IsTrue, arith}
use Rattle.texture_page.specs.Page.{texel_place, clut_place, windowed, index_in}
use Rattle.edge_walk.specs.Attribute.{IsUnscaled}
use Rattle.edge_walk.specs.Line.{line_value}
use Rattle.edge_walk.specs.Plane.{IsPlane}
use Rattle.edge_walk.specs.declared.plane.Plane.{Plane}
use Rattle.edge_walk.specs.Triangle.{Corners, is_inside}
use Rattle.span_lanes.specs.declared.texels.texel_run.TexelRun.{TexelRun}
use Rattle.texel_lanes.specs.declared.texture.Texture.{Texture}
use Rattle.span_lanes.specs.declared.span.Paint.TheVariants.{TexturedRow, TexturedTri}
use Rattle.span_lanes.specs.declared.span.Span.{Span}
use Rattle.span_lanes.specs.Paints.{paint_u, paint_v}
use Rattle.texel_lanes.specs.Texture.{at_cell, clut_row, texel}
use Rattle.span_lanes.specs.Shade.{row_u, attribute_in, AreInside, IsSpan}
use Rattle.span_lanes.specs.TexelRun.{IsRising, IsTexelRun}
use Rattle.span_lanes.proofs.ShadingLemmas.{first_cell}
use Rattle.texel_lanes.proofs.ContiguousLemmas.{open_window, deep_column}
use Rattle.texel_lanes.proofs.TexelLemmas.{texel_direct, texel_eight, texel_four}

-- the columns of a row that does not wrap
pub rising : (u i : ℕ) → u + i ≤ 255 → row_u u false i ≡ u + i
unfolding row_u
rising u i low = omega arith

-- a texel of fifteen bits
pub whole_texel : (span : Span) (t : Texture) (s : TexelRun) (x i h : ℕ) (m : List ℕ) → IsTexelRun span t s
    → 2 ≤ t.page.depth → i < span.n → x ≡ span.x + i
    → h ≡ get_or m (1024 * s.y + (t.page.x + (s.u + i))) 0
    → h ≡ texel t (paint_u span.paint x span.y i) (paint_v span.paint x span.y i) m
whole_texel span t s x i h m is deep lt at read =
    let column = rw (← at) at (is.column i lt) in
    let row = rw (← at) at (is.row i lt) in
    let wide = deep_column t.page.depth (s.u + i) deep in
    let room = is.wholes deep in
    let here : (t.page.x + (s.u + i)) % 1024 ≡ t.page.x + (s.u + i) = omega arith in
    read
    ∙ rw (column, row, wide, here) at
    (texel_direct t (paint_u span.paint x span.y i) (paint_v span.paint x span.y i) m
    (texel_place t.page t.window (paint_u span.paint x span.y i) (paint_v span.paint x span.y i)) deep refl)

-- a texel of four bits, from its CLUT entry
pub four_texel : (span : Span) (t : Texture) (s : TexelRun) (x i e : ℕ) (m : List ℕ) → IsTexelRun span t s
    → t.page.depth ≡ 0 → i < span.n → x ≡ span.x + i
    → e ≡ get_or m
    (1024 * clut_row t.clut +
    (t.clut % 64 * 16 + index_in 0 (s.u + i) (get_or m (1024 * s.y + (t.page.x + (s.u + i) / 4)) 0)) % 1024) 0
    → e ≡ texel t (paint_u span.paint x span.y i) (paint_v span.paint x span.y i) m
four_texel span t s x i e m is four lt at entry =
    let column = rw (← at) at (is.column i lt) in
    let row = rw (← at) at (is.row i lt) in
    let room = is.fours four in
    let here : (t.page.x + (s.u + i) / 4) % 1024 ≡ t.page.x + (s.u + i) / 4 = omega arith in
    texel_four t _ _ m (s.u + i) (get_or m (1024 * s.y + (t.page.x + (s.u + i) / 4)) 0) e four (sym column)
    (rw (four, column, row, here) refl) entry

-- a texel of eight bits, from its CLUT entry
pub eight_texel : (span : Span) (t : Texture) (s : TexelRun) (x i e : ℕ) (m : List ℕ) → IsTexelRun span t s
    → t.page.depth ≡ 1 → i < span.n → x ≡ span.x + i
    → e ≡ at_cell m
    (clut_place t.clut (index_in 1 (s.u + i) (get_or m (1024 * s.y + (t.page.x + (s.u + i) / 2)) 0)))
    → e ≡ texel t (paint_u span.paint x span.y i) (paint_v span.paint x span.y i) m
eight_texel span t s x i e m is eight lt at entry =
    let column = rw (← at) at (is.column i lt) in
    let row = rw (← at) at (is.row i lt) in
    let room = is.eights eight in
    let here : (t.page.x + (s.u + i) / 2) % 1024 ≡ t.page.x + (s.u + i) / 2 = omega arith in
    texel_eight t _ _ m (s.u + i) (get_or m (1024 * s.y + (t.page.x + (s.u + i) / 2)) 0) e eight (sym column)
    (rw (eight, column, row, here) refl) entry

-- the position of the contiguous texels of a span
pub rising_stretch : (span : Span) (t : Texture) (u v : ℕ) (s : TexelRun) → IsRising span u v → t.window.mask_x ≡ 0
    → s.u ≡ u → s.y ≡ t.page.y + windowed t.window.mask_y t.window.off_y v → s.y ≤ t.page.y + 255 → u + span.n ≤ 256
    → (2 ≤ t.page.depth → t.page.x + (u + span.n) ≤ 1024)
    → (t.page.depth ≡ 1 → t.page.x + (u + span.n) / 2 + 16 ≤ 1024)
    → (t.page.depth ≡ 0 → t.page.x + (u + span.n) / 4 + 16 ≤ 1024) → IsTexelRun span t s
rising_stretch span t u v s is clear at row low in_page wholes eights fours = record {
  low = low;
  in_page = rw at in_page;
  wholes = rw at wholes;
  eights = rw at eights;
  fours = rw at fours;
  column = λ i lt.
      let small : u + i ≤ 255 = omega arith in
      rw (is.column i lt small, at) (open_window t.window.mask_x t.window.off_x (u + i) clear small);
  row = λ i lt. rw (is.row i lt, row) refl;
}

-- the texels of a row that is not flipped
pub row_rising : (span : Span) (t : Texture) (color u v : ℕ) (flip : Bool)
    → span.paint ≡ TexturedRow color t u v flip → flip ≡ false → IsRising span u v
row_rising span t color u v flip paint rises = record {
  column = λ i lt small. rw (paint, rises) (rising u i small);
  row = λ i lt. rw paint refl;
}

-- the texels of a row of an unscaled triangle
pub tri_rising : (span : Span) (tri : Corners) (t : Texture) (u v : ℕ) → span.paint ≡ TexturedTri tri t
    → IsSpan span → IsUnscaled tri → u ≡ attribute_in tri 3 span.x span.y → v ≡ attribute_in tri 4 span.x span.y
    → IsRising span u v
tri_rising span tri t u v paint is same across down = record {
  column = λ i lt small. rw (paint, across)
      (same.across (pos span.x) (pos span.y) i first (cells i lt));
  row = λ i lt. rw (paint, down) (same.down (pos span.x) (pos span.y) i first (cells i lt));
}
  where
    cells : AreInside tri span.x span.y span.n
    cells = rw paint at is.inside

    first : IsTrue (is_inside tri (pos span.x) (pos span.y))
    first = first_cell tri span.x span.y span.n is.some cells

-- an attribute inside of a triangle is a byte
plane_small : (tri : Corners) (which x y i : ℕ) (plane : Plane) → IsPlane tri which plane
    → IsTrue (is_inside tri (pos x) (pos y)) → IsTrue (is_inside tri (pos (x + i)) (pos y))
    → attribute_in tri which (x + i) y ≤ 255
unfolding line_value
plane_small tri which x y i plane is first inside =
    let here : i + 0 ≡ i = omega arith in
    let value = rw here at (is.lines (pos x) (pos y) first i 0 (omega arith)) in
    omega (arith, value inside)

-- the texels of a triangle that are contiguous in all rows do not wrap
pub tri_in_page : (span : Span) (tri : Corners) (t : Texture) (plane : Plane) → span.paint ≡ TexturedTri tri t
    → IsSpan span → IsUnscaled tri → IsPlane tri 3 plane → attribute_in tri 3 span.x span.y + span.n ≤ 256
tri_in_page span tri t plane paint is same across =
    let cells : AreInside tri span.x span.y span.n = rw paint at is.inside in
    let first = first_cell tri span.x span.y span.n is.some cells in
    let i : ℕ = span.n - 1 in
    let last = cells i (omega (arith, is.some)) in
    let low = plane_small tri 3 span.x span.y i plane across first last in
    omega (arith, is.some, low, same.across (pos span.x) (pos span.y) i first last)
