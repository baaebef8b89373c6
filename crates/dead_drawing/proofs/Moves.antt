-- Fills and loads in two states of video memory.
use Rattle.std.proofs.Common.{◌≡◌, ◌<◌, ◌≤◌, ◌+◌, ◌-◌, ◌*◌, ◌/◌, ◌%◌, ◌||◌, eqb, ℕ, pos, List, [], ◌∷◌}
use Rattle.std.proofs.Common.{None, Some, Bool}
use Rattle.std.proofs.Common.{true, false, cond, length, get_or, slice_set, inl, inr, refl, sym, ap, ◌∙◌, subst, arith}
use Rattle.std.proofs.lemmas.Bool.{cases_lt}
use Rattle.std.proofs.lemmas.Bool.Decides.{nat_tests}
use Rattle.std.proofs.lemmas.Int.{ints}
use Rattle.std.proofs.lemmas.List.{get_or-set_same, get_or_past, length-set}
use Rattle.std.proofs.Math.Nat.{mod-eq_of_lt}
use Rattle.px_num.specs.declared.shape.Cell.{Cell}
use Rattle.vram_store.specs.Vram.{height_of, set}
use Rattle.vram_store.specs.Plot.{plot}
use Rattle.vram_copy.specs.Fill.{filled_row, filled_rows, filled_rectangle}
use Rattle.vram_copy.specs.Rect.{Size, right, down}
use Rattle.vram_copy.specs.Words.{Load, loaded, loaded_word, pixel_cell, pixel_of, pixels_next}
use Rattle.vram_copy.specs.declared.transfer.Transfer.{Transfer}
use Rattle.prim_draw.specs.Apart.{IsIn, AgreeBut, SameAt}
use Rattle.prim_draw.specs.Areas.{moved_box}
use Rattle.prim_draw.proofs.ApartLemmas.{set_same, plot_same, each_same, each_makes}

-- ---- from one cell to all of them

past_same : (m now : List ℕ) → length now ≡ length m → SameAt (length m) m now
past_same m now e = record {
  count = e;
  cell = get_or_past now (length m) 0 (omega (arith, e))
      ∙ sym (get_or_past m (length m) 0 (omega arith));
}

-- If each equal cell stays equal, alike states stay alike.
pub keeps_all : (among : ℕ → Type 0) (m now new new_now : List ℕ) → ((k : ℕ) → SameAt k m now → SameAt k new new_now)
    → AgreeBut among m now → AgreeBut among new new_now
keeps_all among m now new new_now keeps a = record {
  count = (keeps (length m) (past_same m now a.count)).count;
  others = λ k. elim (a.others k) [
    | inl in_it ↦ inl in_it
    | inr same ↦ inr (keeps k (record { count = a.count; cell = same })).cell
  ];
}

-- ---- fills

row_same : (k : ℕ) (first : Cell) (w color : ℕ) (m now : List ℕ) → SameAt k m now
    → SameAt k (filled_row m first w color) (filled_row now first w color)
row_same k first w color m now same =
    each_same (SameAt k) (λ i cells. set cells (right first i).x first.y color) w m now same
    (λ i a b h. set_same k (1024 * first.y + (right first i).x) color a b h)

rows_same : (height k : ℕ) (first : Cell) (size : Size) (color : ℕ) (m now : List ℕ) → SameAt k m now
    → SameAt k (filled_rows height m first size color) (filled_rows height now first size color)
rows_same height k first size color m now same =
    each_same (SameAt k) (λ j cells. filled_row cells (down height first j) size.w color) size.h m now same
    (λ j a b s. row_same k (down height first j) size.w color a b s)

-- Two states with the same number of cells have the same height.
at_height : (k : ℕ) (first : Cell) (size : Size) (color : ℕ) (m now : List ℕ) → length now ≡ length m
    → SameAt k (filled_rows (height_of m) m first size color) (filled_rows (height_of m) now first size color)
    → SameAt k (filled_rectangle m first size color) (filled_rectangle now first size color)
unfolding filled_rectangle
at_height k first size color m now count same =
    subst (λ (height : ℕ). SameAt k (filled_rows (height_of m) m first size color)
    (filled_rows height now first size color)) (ap (λ (n : ℕ). n / 1024) (sym count)) same

pub fill_same : (k : ℕ) (first : Cell) (size : Size) (color : ℕ) (m now : List ℕ) → SameAt k m now
    → SameAt k (filled_rectangle m first size color) (filled_rectangle now first size color)
fill_same k first size color m now same = at_height k first size color m now same.count
    (rows_same (height_of m) k first size color m now same)

-- both have the same number of cells
abbrev AsMany : List ℕ → List ℕ → Type 0
AsMany m now = length now ≡ length m

set_many : (p color : ℕ) (m now : List ℕ) → AsMany m now → AsMany (slice_set m p color) (slice_set now p color)
set_many p color m now e = length-set now p color ∙ e ∙ sym (length-set m p color)

row_many : (first : Cell) (w color : ℕ) (m now : List ℕ) → AsMany m now
    → AsMany (filled_row m first w color) (filled_row now first w color)
row_many first w color m now e =
    each_same AsMany (λ i cells. set cells (right first i).x first.y color) w m now e
    (λ i a b h. set_many (1024 * first.y + (right first i).x) color a b h)

set_here : (k p color : ℕ) (m now : List ℕ) → p ≡ k → AsMany m now
    → SameAt k (slice_set m p color) (slice_set now p color)
set_here k p color m now here e = record {
  count = set_many p color m now e;
  cell = subst (λ (i : ℕ). get_or (slice_set now i color) k 0 ≡ get_or (slice_set m i color) k 0) (sym here)
      (elim (cases_lt k (length m)) [
        | inl lt ↦ get_or-set_same now k color 0 (omega (arith, lt, e)) ∙ sym (get_or-set_same m k color 0 lt)
        | inr past ↦ get_or_past (slice_set now k color) k 0 (omega (arith, past, e, length-set now k color))
            ∙ sym (get_or_past (slice_set m k color) k 0 (omega (arith, past, length-set m k color)))
      ]);
}

-- column i of a row is cell k
row_makes : (k : ℕ) (first : Cell) (w i color : ℕ) (m now : List ℕ) → i < w → 1024 * first.y + (right first i).x ≡ k
    → AsMany m now → SameAt k (filled_row m first w color) (filled_row now first w color)
row_makes k first w i color m now lt here e =
    each_makes AsMany (SameAt k) (λ i cells. set cells (right first i).x first.y color) w i m now lt e
    (λ i a b h. set_many (1024 * first.y + (right first i).x) color a b h)
    (λ a b h. set_here k (1024 * first.y + (right first i).x) color a b here h)
    (λ i a b h. set_same k (1024 * first.y + (right first i).x) color a b h)

-- cell k is in column i and row j of the rectangle
rows_make : (height k : ℕ) (first : Cell) (size : Size) (i j color : ℕ) (m now : List ℕ) → i < size.w → j < size.h
    → 1024 * (down height first j).y + (right first i).x ≡ k → AsMany m now
    → SameAt k (filled_rows height m first size color) (filled_rows height now first size color)
rows_make height k first size i j color m now lt lu here e =
    each_makes AsMany (SameAt k) (λ j cells. filled_row cells (down height first j) size.w color) size.h j m now lu e
    (λ j a b s. row_many (down height first j) size.w color a b s)
    (λ a b s. row_makes k (down height first j) size.w i color a b lt here s)
    (λ j a b s. row_same k (down height first j) size.w color a b s)

-- cell k is in a rectangle that does not wrap
pub record IsWithin (x y w h k : ℕ) : Type 0 where
  pub left : x ≤ k % 1024
  pub right : k % 1024 < x + w
  pub top : y ≤ k / 1024
  pub bottom : k / 1024 < y + h

within_by : (x y w h k : ℕ) (none_wide none_high : Bool) → none_wide ≡ eqb w 0 → none_high ≡ eqb h 0
    → IsIn (cond (none_wide || none_high) None
    (Some (record { x1 = pos x; y1 = pos y; x2 = pos (x + w - 1); y2 = pos (y + h - 1) }))) k → IsWithin x y w h k
within_by x y w h k true none_high e f within = absurd within
within_by x y w h k false true e f within = absurd within
within_by x y w h k false false e f within =
    let wide : 0 < w = grind (arith, nat_tests) in
    let high : 0 < h = grind (arith, nat_tests) in
    record {
      left = omega (arith, ints, within.left);
      right = omega (arith, ints, within.right);
      top = omega (arith, ints, within.top);
      bottom = omega (arith, ints, within.bottom);
    }

pub within_of : (x y w h k : ℕ) → IsIn (moved_box x y w h) k → IsWithin x y w h k
unfolding moved_box
within_of x y w h k within = within_by x y w h k (eqb w 0) (eqb h 0) refl refl within

wrapped : (height row : ℕ) → row < height → row % height ≡ row
wrapped height row lt = mod-eq_of_lt lt

-- A fill makes every cell of its area equal in both states.
pub fill_makes : (k : ℕ) (first : Cell) (size : Size) (color : ℕ) (m now : List ℕ) → AsMany m now
    → length m % 1024 ≡ 0 → IsIn (moved_box first.x first.y size.w size.h) k
    → SameAt k (filled_rectangle m first size color) (filled_rectangle now first size color)
fill_makes k first size color m now e whole within =
    elim (cases_lt k (length m)) [
      | inl lt ↦
          let u = within_of first.x first.y size.w size.h k within in
          let column : (first.x + (k % 1024 - first.x)) % 1024 ≡ k % 1024 = omega (arith, u.left) in
          let under : k / 1024 < length m / 1024 = omega (arith, whole, lt) in
          let below : first.y + (k / 1024 - first.y) ≡ k / 1024 = omega (arith, u.top) in
          let row : (first.y + (k / 1024 - first.y)) % (length m / 1024) ≡ k / 1024 = rw below
          (wrapped (length m / 1024) (k / 1024) under) in
          at_height k first size color m now e
          (rows_make (height_of m) k first size (k % 1024 - first.x) (k / 1024 - first.y) color m now
          (omega (arith, u.left, u.right)) (omega (arith, u.top, u.bottom))
          (rw (column, row) (omega arith)) e)
      | inr past ↦ fill_same k first size color m now
          (record { count = e; cell = get_or_past now k 0 (omega (arith, past, e)) ∙ sym (get_or_past m k 0 past) })
    ]

-- ---- loads

pixels_same : (height k mask n : ℕ) (load : Load) (m now : List ℕ) → SameAt k m now
    → SameAt k (loaded height m mask load n) (loaded height now mask load n)
pixels_same height k mask n load m now same =
    each_same (SameAt k)
    (λ i cells. let cell = pixel_cell height load.job (load.job.at + i) in
    plot cells mask cell.x cell.y (pixel_of load.words i)) n m now same
    (λ i a b h. plot_same mask k _ _ (pixel_of load.words i) a b h)

pub load_same : (k mask word : ℕ) (job : Transfer) (m now : List ℕ) → SameAt k m now
    → SameAt k (loaded_word m mask job word) (loaded_word now mask job word)
unfolding loaded_word
load_same k mask word job m now same =
    let one : Load = record { job = job; words = word ∷ [] } in
    subst (λ (height : ℕ). SameAt k (loaded (height_of m) m mask one (pixels_next job))
    (loaded height now mask one (pixels_next job)))
    (ap (λ (n : ℕ). n / 1024) (sym same.count))
    (pixels_same (height_of m) k mask (pixels_next job) one m now same)
