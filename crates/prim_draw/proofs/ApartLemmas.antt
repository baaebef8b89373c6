-- Cells that are plotted one after another, in two states of video memory.
use Rattle.std.proofs.Common.{◌≡◌, ◌≢◌, ◌<◌, ◌≤◌, ◌+◌, ◌*◌, ℕ, zero, suc, List, [], ◌∷◌, Option, None, Some}
use Rattle.std.proofs.Common.{length, get_or, inl, inr, refl, sym, ap, ◌∙◌, subst}
use Rattle.std.proofs.Common.{arith}
use Rattle.std.proofs.lemmas.Bool.{cases_lt, cases_eq}
use Rattle.std.proofs.lemmas.List.{get_or-set_same, get_or-set_other, set_past}
use Rattle.px_num.specs.Fold.{each_below}
use Rattle.px_num.specs.declared.shape.Cell.{Cell}
use Rattle.vram_store.specs.Vram.{at}
use Rattle.vram_store.specs.Plot.{written_over, put_at, draw_at, plot}
use Rattle.vram_store.proofs.Drawn.{plot_is, length-put_at}
use Rattle.span_lanes.specs.Cells.{drawn_cells}
use Rattle.prim_draw.specs.Apart.{AgreeBut, SameAt}

-- ---- one cell of two states

pub put_other : (k p : ℕ) (w : Option ℕ) (m : List ℕ) → k ≢ p → get_or (put_at p w m) k 0 ≡ get_or m k 0
put_other k p None m away = refl
put_other k p (Some h) m away = get_or-set_other m p k h 0 away

put_here : (k : ℕ) (w : Option ℕ) (m now : List ℕ) → SameAt k m now
    → get_or (put_at k w now) k 0 ≡ get_or (put_at k w m) k 0
put_here k None m now same = same.cell
put_here k (Some h) m now same = elim (cases_lt k (length m)) [
  | inl here ↦ get_or-set_same now k h 0 (omega (arith, here, same.count)) ∙ sym (get_or-set_same m k h 0 here)
  | inr past ↦ let past_now : length now ≤ k = omega (arith, past, same.count) in
      ap (λ (l : List ℕ). get_or l k 0) (set_past now k h past_now) ∙ same.cell
      ∙ sym (ap (λ (l : List ℕ). get_or l k 0) (set_past m k h past))
]

put_same : (k p : ℕ) (a b : Option ℕ) (m now : List ℕ) → SameAt k m now → (p ≡ k → a ≡ b)
    → SameAt k (put_at p a m) (put_at p b now)
put_same k p a b m now same alike = record {
  count = length-put_at p b now ∙ same.count ∙ sym (length-put_at p a m);
  cell = elim (cases_eq k p) [
    | inl here ↦ subst (λ (i : ℕ). get_or (put_at i b now) k 0 ≡ get_or (put_at i a m) k 0) here
        (ap (λ (w : Option ℕ). get_or (put_at k w now) k 0) (sym (alike (sym here))) ∙ put_here k a m now same)
    | inr away ↦ put_other k p b now away ∙ same.cell ∙ sym (put_other k p a m away)
  ];
}

-- a plot of two pixels that are equal if they are for this cell
pub draw_same : (mask k p : ℕ) (a b : Option ℕ) (m now : List ℕ) → SameAt k m now → (p ≡ k → a ≡ b)
    → SameAt k (draw_at mask p a m) (draw_at mask p b now)
draw_same mask k p a b m now same alike = put_same k p _ _ m now same (λ here.
    let cell : get_or m p 0 ≡ get_or now p 0 = subst (λ (i : ℕ). get_or m i 0 ≡ get_or now i 0) (sym here)
    (sym same.cell) in
    ap (λ (c : ℕ). written_over mask c a) cell ∙ ap (written_over mask (get_or now p 0)) (alike here))

pub plot_same : (mask k x y color : ℕ) (m now : List ℕ) → SameAt k m now
    → SameAt k (plot m mask x y color) (plot now mask x y color)
plot_same mask k x y color m now same =
    rw (plot_is m mask x y color, plot_is now mask x y color)
    (draw_same mask k (1024 * y + x) (Some color) (Some color) m now same (λ here. refl))

pub set_same : (k p color : ℕ) (m now : List ℕ) → SameAt k m now
    → SameAt k (put_at p (Some color) m) (put_at p (Some color) now)
set_same k p color m now same = put_same k p (Some color) (Some color) m now same (λ here. refl)

-- a pixel depends on no cell but its own
abbrev pub IsLocal : (Cell → List ℕ → Option ℕ) → Type 0
IsLocal shade = (cell : Cell) (m now : List ℕ) → at m cell.x cell.y ≡ at now cell.x cell.y
    → shade cell m ≡ shade cell now

pub cells_same : (shade : Cell → List ℕ → Option ℕ) (mask k : ℕ) → IsLocal shade
    → (cells : List Cell) (m now : List ℕ) → SameAt k m now
    → SameAt k (drawn_cells shade mask cells m) (drawn_cells shade mask cells now)
cells_same shade mask k local [] m now same = same
cells_same shade mask k local (cell ∷ cells) m now same =
    cells_same shade mask k local cells _ _
    (draw_same mask k (1024 * cell.y + cell.x) (shade cell m) (shade cell now) m now same
    (λ here. local cell m now (subst (λ (i : ℕ). get_or m i 0 ≡ get_or now i 0) (sym here) (sym same.cell))))

pub each_same : (holds : List ℕ → List ℕ → Type 0) (step : ℕ → List ℕ → List ℕ) (n : ℕ) (m now : List ℕ) → holds m now
    → ((i : ℕ) (a b : List ℕ) → holds a b → holds (step i a) (step i b))
    → holds (each_below step n m) (each_below step n now)
each_same holds step zero m now h keeps = h
each_same holds step (suc n) m now h keeps = keeps n _ _ (each_same holds step n m now h keeps)

-- one of the steps establishes a relation of two states, and the later steps keep it
pub each_makes : (loose holds : List ℕ → List ℕ → Type 0) (step : ℕ → List ℕ → List ℕ) (n j : ℕ) (m now : List ℕ)
    → j < n → loose m now
    → ((i : ℕ) (a b : List ℕ) → loose a b → loose (step i a) (step i b))
    → ((a b : List ℕ) → loose a b → holds (step j a) (step j b))
    → ((i : ℕ) (a b : List ℕ) → holds a b → holds (step i a) (step i b))
    → holds (each_below step n m) (each_below step n now)
each_makes loose holds step zero j m now lt h more makes keeps = absurd (omega arith)
each_makes loose holds step (suc n) j m now lt h more makes keeps = elim (cases_eq j n) [
  | inl last ↦ subst (λ (i : ℕ). holds (step i (each_below step n m)) (step i (each_below step n now))) last
      (makes _ _ (each_same loose step n m now h more))
  | inr not ↦ keeps n _ _ (each_makes loose holds step n j m now (omega (arith, lt, not)) h more makes keeps)
]

-- ---- a state before and after changes

pub but_same : (among : ℕ → Type 0) (m : List ℕ) → AgreeBut among m m
but_same among m = record { count = refl; others = λ k. inr refl }

pub but_then : (among : ℕ → Type 0) (m now last : List ℕ) → AgreeBut among m now → AgreeBut among now last
    → AgreeBut among m last
but_then among m now last a b = record {
  count = b.count ∙ a.count;
  others = λ k. elim (a.others k) [
    | inl in_it ↦ inl in_it
    | inr first ↦ elim (b.others k) [
      | inl in_it ↦ inl in_it
      | inr second ↦ inr (second ∙ first)
    ]
  ];
}

pub but_more : (among wider : ℕ → Type 0) (m now : List ℕ) → ((k : ℕ) → among k → wider k) → AgreeBut among m now
    → AgreeBut wider m now
but_more among wider m now goes a = record {
  count = a.count;
  others = λ k. elim (a.others k) [
    | inl in_it ↦ inl (goes k in_it)
    | inr same ↦ inr same
  ];
}

put_but : (among : ℕ → Type 0) (p : ℕ) (w : Option ℕ) (m : List ℕ) → among p → AgreeBut among m (put_at p w m)
put_but among p w m in_it = record {
  count = length-put_at p w m;
  others = λ k. elim (cases_eq k p) [
    | inl here ↦ inl (subst among (sym here) in_it)
    | inr away ↦ inr (put_other k p w m away)
  ];
}

-- a fact is true of the index of each cell
abbrev pub EachCell : (ℕ → Type 0) → List Cell → Type 0
EachCell among [] = Unit {0}
EachCell among (cell ∷ cells) = among (1024 * cell.y + cell.x) × EachCell among cells

pub cells_but : (among : ℕ → Type 0) (shade : Cell → List ℕ → Option ℕ) (mask : ℕ) (cells : List Cell) (m : List ℕ)
    → EachCell among cells
    → AgreeBut among m (drawn_cells shade mask cells m)
cells_but among shade mask [] m each = but_same among m
cells_but among shade mask (cell ∷ cells) m each =
    but_then among m _ _ (put_but among (1024 * cell.y + cell.x) _ m each.0)
    (cells_but among shade mask cells _ each.1)

pub each_but : (among : ℕ → Type 0) (step : ℕ → List ℕ → List ℕ) (n : ℕ) (m : List ℕ)
    → ((i : ℕ) (a : List ℕ) → i < n → AgreeBut among a (step i a))
    → AgreeBut among m (each_below step n m)
each_but among step zero m keeps = but_same among m
each_but among step (suc n) m keeps =
    but_then among m _ _ (each_but among step n m (λ i a lt. keeps i a (omega (arith, lt)))) (keeps n _ (omega arith))
