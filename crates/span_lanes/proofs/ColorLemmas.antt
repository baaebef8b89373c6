-- Colours from their channels.
use Rattle.std.proofs.Common.{◌≡◌, ◌≤◌, ◌<◌, ℕ, ◌+◌, ◌*◌, ◌%◌, ◌^◌, ◌∙◌, ap, refl, Bool, false, List, map, length}
use Rattle.std.proofs.Common.{get_or, pos, ℤ, to_z, of_z, w16, SFits, arith, [], ◌/◌}
use Rattle.std.specs.List.{range_with_len}
use Rattle.std.proofs.lemmas.List.FromFn.{get_or-map-range_with_len}
use Rattle.std.proofs.lemmas.Int.{ints, to_z-of_z}
use Rattle.std.proofs.lemmas.List.{get_or-map, length-map}
use Rattle.px_num.specs.Lanes.{EachLane}
use Rattle.blend_dither.specs.Color.{red_of, green_of, blue_of, IsShift, dither_offset}
use Rattle.span_lanes.specs.declared.span.Paint.{Paint}
use Rattle.span_lanes.specs.declared.span.Paint.TheVariants.{Flat, Shaded, TexturedTri, TexturedRow}
use Rattle.edge_walk.specs.Triangle.{Corners}
use Rattle.edge_walk.specs.Attribute.{HasColor}
use Rattle.span_lanes.specs.Shade.{HasInside, AreInside, dither_of, color_in}

pub red_mixed : (r g b : ℕ) → r ≤ 255 → red_of (r + 256 * g + 65536 * b) ≡ r
red_mixed r g b low = omega arith

pub green_mixed : (r g b : ℕ) → r ≤ 255 → g ≤ 255 → green_of (r + 256 * g + 65536 * b) ≡ g
green_mixed r g b low less = omega arith

pub blue_mixed : (r g b : ℕ) → r ≤ 255 → g ≤ 255 → b ≤ 255 → blue_of (r + 256 * g + 65536 * b) ≡ b
blue_mixed r g b low less least = omega arith

inside_more : (tri : Corners) (x y n first k : ℕ) → first + k ≤ n → AreInside tri x y n → AreInside tri (x + first) y k
inside_more tri x y n first k within inside i lt =
    let same : x + first + i ≡ x + (first + i) = omega arith in
    rw same (inside (first + i) (omega arith))

-- cells of a later chunk are inside
pub inside_later : (paint : Paint) (x y n first k : ℕ) → first + k ≤ n → HasInside paint x y n
    → HasInside paint (x + first) y k
inside_later (Flat color) x y n first k within inside = inside
inside_later (Shaded tri) x y n first k within inside = inside_more tri x y n first k within inside
inside_later (TexturedTri tri texture) x y n first k within inside = inside_more tri x y n first k within inside
inside_later (TexturedRow color texture u v flip) x y n first k within inside = inside

small_fits : (z : ℤ) → IsShift z → SFits w16 z
small_fits z small = omega (arith, ints)

-- small numbers that were written to lanes are read back
pub read_back : (xs : List ℤ) → length xs ≡ 16 → EachLane (λ i. IsShift (get_or xs i (pos 0))) → (i : ℕ) → i < 16
    → get_or (map (to_z w16) (map (of_z w16) xs)) i (pos 0) ≡ get_or xs i (pos 0)
read_back xs long small i lt =
    let there : i < length xs = omega (arith, long) in
    let there_too : i < length (map (of_z w16) xs) = simp length-map there in
    get_or-map (to_z w16) (map (of_z w16) xs) i 0 (pos 0) there_too
    ∙ ap (to_z w16) (get_or-map (of_z w16) xs i (pos 0) 0 there)
    ∙ to_z-of_z w16 (get_or xs i (pos 0)) (small_fits (get_or xs i (pos 0)) (small i lt))

-- the first cell is inside
pub inside_first : (paint : Paint) (x y n : ℕ) → 1 ≤ n → HasInside paint x y n → HasInside paint x y 1
inside_first (Flat color) x y n some inside = inside
inside_first (Shaded tri) x y n some inside = λ i lt. inside i (omega arith)
inside_first (TexturedTri tri texture) x y n some inside = λ i lt. inside i (omega arith)
inside_first (TexturedRow color texture u v flip) x y n some inside = inside

-- ---- dither offsets

pub no_shift : (dither : Bool) (x y : ℕ) → dither ≡ false → dither_of dither x y ≡ pos 0
unfolding dither_of
no_shift dither x y none = rw none refl

abbrev pub dither_row : ℕ → List ℤ
dither_row p = map (λ i. dither_offset (p % 4 + i) (p / 4)) (range_with_len 0 16)

-- rows of sixteen dither offsets
pub row_read : (rows : List (List ℤ)) → rows ≡ map dither_row (range_with_len 0 16) → (p i : ℕ) → p < 16 → i < 16
    → get_or (get_or rows p []) i (pos 0) ≡ dither_offset (p % 4 + i) (p / 4)
row_read rows same p i lt less =
    rw (same, get_or-map-range_with_len dither_row 0 16 p p [] lt (omega arith))
    (get_or-map-range_with_len (λ j. dither_offset (p % 4 + j) (p / 4)) 0 16 i i (pos 0) less (omega arith))

pub row_long : (rows : List (List ℤ)) → rows ≡ map dither_row (range_with_len 0 16) → (p : ℕ) → p < 16
    → length (get_or rows p []) ≡ 16
row_long rows same p lt =
    rw (same, get_or-map-range_with_len dither_row 0 16 p p [] lt (omega arith)) refl

-- dither offsets repeat after four cells
pub shift_again : (dither : Bool) (x next y j : ℕ) → next % 4 ≡ (x + j) % 4 → dither_of dither (x + j) y
    ≡ dither_of dither next y
unfolding dither_of
shift_again dither x next y j e = rw e refl

pub dither_again : (x y i : ℕ) → dither_offset ((4 * (y % 4) + x % 4) % 4 + i) ((4 * (y % 4) + x % 4) / 4)
    ≡ dither_offset (x + i) y
dither_again x y i =
    let column : ((4 * (y % 4) + x % 4) % 4 + i) % 4 ≡ (x + i) % 4 = omega arith in
    let row : (4 * (y % 4) + x % 4) / 4 % 4 ≡ y % 4 = omega arith in
    rw (column, row) refl

-- a triangle of one colour
pub one_in : (tri : Corners) (x y color : ℕ) → color < 2 ^ 24 → HasColor tri (pos x) (pos y) color
    → color ≡ color_in tri x y
unfolding color_in
one_in tri x y color low has = rw (has.red, has.green, has.blue) (omega (arith, low))
