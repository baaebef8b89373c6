-- A list of cells and numbered lanes.
use Rattle.std.proofs.Common.{◌≡◌, ◌<◌, ℕ, zero, suc, List, [], ◌∷◌, ◌++◌, Option, ◌+◌, ◌-◌, ◌*◌, map, refl, sym, ap}
use Rattle.std.proofs.Common.{◌∙◌, arith, add-one}
use Rattle.std.specs.List.{range_with_len}
use Rattle.std.proofs.lemmas.List.FromFn.{map-range_with_len_more}
use Rattle.px_num.specs.declared.shape.Cell.{Cell}
use Rattle.vram_store.specs.Plot.{draw_at, draw_lane, drawn_lanes}
use Rattle.span_lanes.specs.Cells.{drawn_cells, cell_in_row, row_cells}
use Rattle.span_lanes.specs.Shade.{shade, shade_at}
use Rattle.span_lanes.specs.Laws.{SpanLaw}
use Rattle.vram_store.proofs.Drawn.{drawn_none, drawn_more}

pub cells_append : (by_cell : Cell → List ℕ → Option ℕ) (mask : ℕ) (cells more : List Cell) (m : List ℕ)
    → drawn_cells by_cell mask (cells ++ more) m ≡ drawn_cells by_cell mask more (drawn_cells by_cell mask cells m)
cells_append by_cell mask [] more m = refl
cells_append by_cell mask (cell ∷ cells) more m = cells_append by_cell mask cells more
    (draw_at mask (1024 * cell.y + cell.x) (by_cell cell m) m)

-- one more cell
pub row_more : (x y n : ℕ) → row_cells x y (suc n) ≡ row_cells x y n ++ cell_in_row x y n ∷ []
unfolding row_cells
row_more x y n =
    ap (λ (k : ℕ). map (cell_in_row x y) (range_with_len 0 k)) (sym (add-one n))
    ∙ map-range_with_len_more (cell_in_row x y) 0 n n (omega arith)

pub row_none : (x y : ℕ) → row_cells x y 0 ≡ []
unfolding row_cells
row_none x y = refl

-- pixels that are equal at the cells of a row are drawn with the same result there
module _ (one two : Cell → List ℕ → Option ℕ) (mask x y : ℕ) where
  last_same : (n : ℕ) (now : List ℕ) → one (cell_in_row x y n) now ≡ two (cell_in_row x y n) now
      → drawn_cells one mask (cell_in_row x y n ∷ []) now ≡ drawn_cells two mask (cell_in_row x y n ∷ []) now
  last_same n now same = ap (λ (pixel : Option ℕ). draw_at mask (1024 * y + (x + n)) pixel now) same

  pub row_same : (n : ℕ) (m : List ℕ)
      → ((i : ℕ) → i < n → (now : List ℕ) → one (cell_in_row x y i) now ≡ two (cell_in_row x y i) now)
      → drawn_cells one mask (row_cells x y n) m ≡ drawn_cells two mask (row_cells x y n) m
  row_same zero m same = rw (row_none x y) refl
  row_same (suc n) m same =
      let so_far = row_same n m (λ i lt. same i (omega arith)) in
      rw (row_more x y n)
      (cells_append one mask (row_cells x y n) (cell_in_row x y n ∷ []) m
      ∙ ap (drawn_cells one mask (cell_in_row x y n ∷ [])) so_far
      ∙ last_same n (drawn_cells two mask (row_cells x y n) m)
      (same n (omega arith) (drawn_cells two mask (row_cells x y n) m))
      ∙ sym (cells_append two mask (row_cells x y n) (cell_in_row x y n ∷ []) m))

module _ (by_cell : Cell → List ℕ → Option ℕ) (by_lane : ℕ → List ℕ → Option ℕ) (mask x y : ℕ) (m : List ℕ)
    (same : (i : ℕ) (now : List ℕ) → by_lane i now ≡ by_cell (cell_in_row x y i) now) where
  one_same : (n : ℕ) (now : List ℕ) → draw_lane by_lane mask (1024 * y + x) n now ≡ draw_at mask (1024 * y + (x + n))
      (by_cell (cell_in_row x y n) now) now
  one_same n now =
      let place : 1024 * y + x + n ≡ 1024 * y + (x + n) = omega arith in
      rw (place, same n now) refl

  pub row_is_lanes : (n : ℕ) → drawn_lanes by_lane mask (1024 * y + x) n m
      ≡ drawn_cells by_cell mask (row_cells x y n) m
  row_is_lanes zero = drawn_none by_lane mask (1024 * y + x) m
      ∙ ap (λ (cells : List Cell). drawn_cells by_cell mask cells m)
      (sym (row_none x y))
  row_is_lanes (suc n) =
      ap (λ (k : ℕ). drawn_lanes by_lane mask (1024 * y + x) k m) (sym (add-one n))
      ∙ drawn_more by_lane mask (1024 * y + x) n m
      ∙ ap (draw_lane by_lane mask (1024 * y + x) n) (row_is_lanes n)
      ∙ one_same n (drawn_cells by_cell mask (row_cells x y n) m)
      ∙ sym (cells_append by_cell mask (row_cells x y n) (cell_in_row x y n ∷ []) m)
      ∙ ap (λ (cells : List Cell). drawn_cells by_cell mask cells m) (sym (row_more x y n))

pub span_law : SpanLaw
span_law span n m =
    row_is_lanes (shade_at span) (shade span) span.brush.mask span.x span.y m
    (λ i now. let back : i ≡ (span.x + i) - span.x = omega arith in ap (λ (k : ℕ). shade span k now) back) n
