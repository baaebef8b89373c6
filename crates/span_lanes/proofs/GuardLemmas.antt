-- The cells of the texels of a chunk, lane by lane.
use Rattle.std.proofs.Common.{◌≡◌, ◌<◌, ◌≤◌, ℕ, zero, suc, ◌+◌, List, [], ◌∷◌, ◌++◌, map, get_or, refl, sym, ap, ◌∙◌}
use Rattle.std.proofs.Common.{add-one, arith}
use Rattle.std.specs.List.{range_with_len}
use Rattle.std.proofs.lemmas.List.FromFn.{map-range_with_len_more}
use Rattle.px_num.specs.Lanes.{EachLane}
use Rattle.px_num.specs.declared.shape.Cell.{Cell}
use Rattle.texture_page.specs.Page.{texel_place}
use Rattle.overlap_guard.specs.Lanes.{lane_cells}
use Rattle.span_lanes.specs.declared.span.Paint.{Paint}
use Rattle.texel_lanes.specs.declared.texture.Texture.{Texture}
use Rattle.span_lanes.specs.Chunks.Lanes.{HasCoordinates, columns_from, rows_from}
use Rattle.span_lanes.specs.Hazard.Guard.{paint_texel, paint_texels, texel_cells}

-- two lists of n cells that are equal member by member
mapped_same : (f g : ℕ → Cell) (first n : ℕ) → ((i : ℕ) → i < n → f (first + i) ≡ g i)
    → map f (range_with_len first n) ≡ map g (range_with_len 0 n)
mapped_same f g first zero same = refl
mapped_same f g first (suc n) same =
    let so_far = mapped_same f g first n (λ i lt. same i (omega (arith, lt))) in
    let more : map f (range_with_len first n) ++ f (first + n) ∷ []
    ≡ map g (range_with_len 0 n) ++ g n ∷ [] = rw (so_far, same n (omega arith)) refl in
    ap (λ (k : ℕ). map f (range_with_len first k)) (sym (add-one n))
    ∙ map-range_with_len_more f first n (first + n) refl
    ∙ more
    ∙ sym (map-range_with_len_more g 0 n n (omega arith))
    ∙ ap (λ (k : ℕ). map g (range_with_len 0 k)) (add-one n)

-- the cells computed from texel coordinates are those of the paint
pub cells_same : (paint : Paint) (t : Texture) (x y first : ℕ) (us vs : List ℕ) (k n : ℕ)
    → HasCoordinates (columns_from paint (x + first) y first) (rows_from paint (x + first) y first) n us vs → k ≤ n
    → paint_texels paint t x y first k ≡ texel_cells t us vs k
unfolding paint_texels texel_cells
cells_same paint t x y first us vs k n has le =
    mapped_same (paint_texel paint t x y) (λ j. texel_place t.page t.window (get_or us j 0) (get_or vs j 0)) first k
    here
  where
    here : (i : ℕ) → i < k → paint_texel paint t x y (first + i)
        ≡ texel_place t.page t.window (get_or us i 0) (get_or vs i 0)
    here i lt =
        let column : x + first + i ≡ x + (first + i) = omega arith in
        let across = rw column at (has.u i (omega (arith, lt))) in
        let down = rw column at (has.v i (omega (arith, lt))) in
        rw (across, down) refl

-- the same for cells given by their columns and rows
pub lanes_same : (t : Texture) (us vs xs ys : List ℕ) (k : ℕ) → k ≤ 16
    → EachLane (λ i. get_or xs i 0 ≡ (texel_place t.page t.window (get_or us i 0) (get_or vs i 0)).x)
    → EachLane (λ i. get_or ys i 0 ≡ (texel_place t.page t.window (get_or us i 0) (get_or vs i 0)).y)
    → lane_cells xs ys k ≡ texel_cells t us vs k
unfolding lane_cells texel_cells
lanes_same t us vs xs ys k few across down =
    mapped_same (λ j. record { x = get_or xs j 0; y = get_or ys j 0 })
    (λ j. texel_place t.page t.window (get_or us j 0) (get_or vs j 0)) 0 k here
  where
    here : (i : ℕ) → i < k → ◌≡◌ {A = Cell} (record { x = get_or xs (0 + i) 0; y = get_or ys (0 + i) 0 })
        (texel_place t.page t.window (get_or us i 0) (get_or vs i 0))
    here i lt =
        let same : 0 + i ≡ i = omega arith in
        rw (same, across i (omega (arith, lt)), down i (omega (arith, lt))) refl
