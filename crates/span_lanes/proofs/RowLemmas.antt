-- The cells of a row that a triangle draws, as a run of cells.
use Rattle.std.proofs.Common.{◌≡◌, ◌<◌, ◌≤◌, ℕ, zero, suc, ◌+◌, ◌-◌, min, ℤ, pos, ◌≤ℤ◌, ◌-ℤ◌, unsigned_abs, List, []}
use Rattle.std.proofs.Common.{Option, length, ◌∷◌, ◌++◌, Bool, true, false, IsTrue, cond, map, inl, inr, refl, sym, ap}
use Rattle.std.proofs.Common.{◌∙◌, arith, add-one, append-nil, IfSome, None, Some, subst}
use Rattle.std.specs.List.{filter, range_with_len}
use Rattle.std.proofs.lemmas.Bool.{cases_lt}
use Rattle.std.proofs.lemmas.Int.{ints}
use Rattle.std.proofs.lemmas.List.Elements.{filter-append}
use Rattle.std.proofs.lemmas.List.FromFn.{length-map-range_with_len}
use Rattle.px_num.specs.declared.shape.Cell.{Cell}
use Rattle.edge_walk.specs.Row.{IsRowSpan, IsInBox}
use Rattle.edge_walk.specs.Triangle.{Corners, is_inside}
use Rattle.span_lanes.specs.Cells.{cell_in_row, row_cells, Stage}
use Rattle.span_lanes.specs.Cost.{span_cost}
use Rattle.span_lanes.specs.SpanDrawer.{DrawsCells}
use Rattle.span_lanes.specs.Shade.{shade, shade_at}
use Rattle.span_lanes.specs.declared.span.Span.{Span}
use Rattle.span_lanes.proofs.CellsLemmas.{cells_append, row_more, row_none, row_same}
use Rattle.span_lanes.specs.Figures.Rows.{cells_down, side_by_side, DrawsRows, DrawsRun, Figure, PaintsAs, run_cells}
use Rattle.span_lanes.specs.Figures.Boxes.{row_box}
use Rattle.span_lanes.specs.Pattern.{Pattern, painted_cells, pixel_at, span_from, run_span}
use Rattle.span_lanes.specs.Figures.Triangles.{draws}
use Rattle.span_lanes.specs.declared.span.Run.{Run}
use Rattle.span_lanes.specs.declared.span.ClipRect.{ClipRect}

-- a test is true for `count` cells of a row from column `first` on, and false for the other of the row's w cells from
-- x on
pub record HoldsInRun (test : Cell → Bool) (x y w first count : ℕ) : Type 0 where
  pub below : (i : ℕ) → i < w → x + i < first → test (cell_in_row x y i) ≡ false
  pub here : (i : ℕ) → i < w → first ≤ x + i → x + i < first + count → test (cell_in_row x y i) ≡ true
  pub beyond : (i : ℕ) → i < w → first + count ≤ x + i → test (cell_in_row x y i) ≡ false

module _ (test : Cell → Bool) (x y w first count : ℕ) (left : x ≤ first) (h : HoldsInRun test x y w first count) where
  more : (n : ℕ) → filter test (row_cells x y (suc n)) ≡ filter test (row_cells x y n) ++ cond
      (test (cell_in_row x y n)) (cell_in_row x y n ∷ []) []
  more n = ap (filter test) (row_more x y n) ∙ filter-append test (row_cells x y n) (cell_in_row x y n ∷ [])

  outside : (n : ℕ) → test (cell_in_row x y n) ≡ false → filter test (row_cells x y (suc n))
      ≡ filter test (row_cells x y n)
  outside n e = more n ∙ rw e (append-nil _)

  kept : (n : ℕ) → test (cell_in_row x y n) ≡ true → filter test (row_cells x y (suc n))
      ≡ filter test (row_cells x y n) ++ cell_in_row x y n ∷ []
  kept n e = more n ∙ rw e refl

  part : ℕ → ℕ
  part n = min (x + n - first) count

  one : (n : ℕ) → n < w → filter test (row_cells x y n) ≡ row_cells first y (part n)
      → filter test (row_cells x y (suc n)) ≡ row_cells first y (part (suc n))
  unfolding part
  one n lt so_far = elim (cases_lt (x + n) first) [
    | inl below ↦ let same : min (x + suc n - first) count ≡ min (x + n - first) count = omega (arith, below) in
        outside n (h.below n lt below) ∙ so_far ∙ ap (row_cells first y) (sym same)
    | inr from ↦ elim (cases_lt (x + n) (first + count)) [
      | inl to ↦
          let now : min (x + n - first) count ≡ x + n - first = omega (arith, to, from) in
          let then_ : min (x + suc n - first) count ≡ suc (x + n - first) = omega (arith, to, from) in
          let place : x + n ≡ first + (x + n - first) = omega (arith, from) in
          kept n (h.here n lt from to)
          ∙ ap (λ (cells : List Cell). cells ++ cell_in_row x y n ∷ []) (so_far ∙ ap (row_cells first y) now)
          ∙ ap (λ (column : ℕ). row_cells first y (x + n - first) ++ record { x = column; y = y } ∷ []) place
          ∙ sym (row_more first y (x + n - first))
          ∙ ap (row_cells first y) (sym then_)
      | inr beyond ↦ let same : min (x + suc n - first) count ≡ min (x + n - first) count = omega (arith, beyond) in
          outside n (h.beyond n lt beyond) ∙ so_far ∙ ap (row_cells first y) (sym same)
    ]
  ]

  all : (n : ℕ) → n ≤ w → filter test (row_cells x y n) ≡ row_cells first y (part n)
  unfolding part
  all zero le = let none : min (x + zero - first) count ≡ 0 = omega arith in
      rw (none, row_none x y, row_none first y) refl
  all (suc n) le = one n (omega arith) (all n (omega arith))

  -- the cells for which the test is true
  pub filtered : first + count ≤ x + w → filter test (row_cells x y w) ≡ row_cells first y count
  unfolding part
  filtered right = let whole : min (x + w - first) count ≡ count = omega (arith, left) in all w (omega arith)
      ∙ ap (row_cells first y) whole

not_true : (b : Bool) → (IsTrue b → ⊥) → b ≡ false
not_true true h = absurd (h refl)
not_true false h = refl

-- the first column of a run and its number of cells, from its ends
pub record IsFound (t : Corners) (b : ClipRect) (y x n : ℕ) : Type 0 where
  pub some : 1 ≤ n
  pub left : b.x ≤ x
  pub right : x + n ≤ b.x + b.w
  pub inside : (i : ℕ) → i < n → IsTrue (is_inside t (pos (x + i)) (pos y))
  pub cells : HoldsInRun (draws t) b.x y b.w x n

module _ (t : Corners) (b : ClipRect) (y : ℕ) (first last : ℤ) (some : 1 ≤ b.w)
    (h : IsRowSpan t (pos y) (row_box b y) first last) where
  pub first_in : (pos b.x ≤ℤ first) × (first ≤ℤ pos (b.x + b.w - 1))
  first_in = (((h.cells first).1 (omega (arith, ints), h.order)).0).0

  pub last_in : (pos b.x ≤ℤ last) × (last ≤ℤ pos (b.x + b.w - 1))
  last_in = (((h.cells last).1 (h.order, omega (arith, ints))).0).0

  in_box : (x : ℕ) → b.x ≤ x → x < b.x + b.w → IsInBox (row_box b y) (pos x) (pos y)
  in_box x from to = ((omega (arith, ints, from), omega (arith, ints, to)), (omega (arith, ints), omega (arith, ints)))

  pub found : IsFound t b y (unsigned_abs first) (unsigned_abs (last -ℤ first) + 1)
  found =
      let f = first_in in
      let l = last_in in
      record {
        some = omega arith;
        left = omega (arith, ints, f.0);
        right = omega (arith, ints, f.0, f.1, l.0, l.1, h.order);
        inside = λ i lt.
            ((h.cells (pos (unsigned_abs first + i))).1
            (omega (arith, ints, f.0, lt), omega (arith, ints, f.0, lt, h.order))).1;
        cells = record {
          below = λ i lt under. not_true _
              (λ inside. let u = (h.cells (pos (b.x + i))).0
              (in_box (b.x + i) (omega arith) (omega (arith, lt)), inside) in
              absurd (omega (arith, ints, u.0, under, f.0)));
          here = λ i lt from to.
              ((h.cells (pos (b.x + i))).1 (omega (arith, ints, from, f.0), omega (arith, ints, to, f.0, h.order))).1;
          beyond = λ i lt over. not_true _
              (λ inside. let u = (h.cells (pos (b.x + i))).0
              (in_box (b.x + i) (omega arith) (omega (arith, lt)), inside) in
              absurd (omega (arith, ints, u.1, over, f.0, h.order)));
        };
      }

-- no cell of a row is inside
pub none_found : (t : Corners) (b : ClipRect) (y : ℕ) → 1 ≤ b.w
    → ((x : ℤ) → IsInBox (row_box b y) x (pos y) → is_inside t x (pos y) ≡ false)
    → filter (draws t) (row_cells b.x y b.w) ≡ []
none_found t b y some none =
    filtered (draws t) b.x y b.w b.x 0 (omega arith)
    (record {
      below = λ i lt under. absurd (omega (arith, under));
      here = λ i lt from to. absurd (omega (arith, from, to));
      beyond = λ i lt over. none (pos (b.x + i))
          ((omega (arith, ints), omega (arith, ints, lt)), (omega (arith, ints), omega (arith, ints)));
    })
    (omega arith)
    ∙ row_none b.x y

-- ---- a run that is drawn as a span

-- consecutive cells cost what their span costs
pub span_of_row : (p : Pattern) (x y n : ℕ) → 1 ≤ n
    → side_by_side p (row_cells x y n) ≡ span_cost (span_from p (record { x = x; y = y }) n)
unfolding row_cells
span_of_row p x y zero some = absurd (omega arith)
span_of_row p x y (suc n) some =
    let here : x + 0 ≡ x = omega arith in
    let count : length (map (cell_in_row x y) (range_with_len 0 (suc n))) ≡ suc n = length-map-range_with_len
    (cell_in_row x y) 0 (suc n) in
    ap (λ (column : ℕ). span_cost (span_from p (record { x = column; y = y })
    (length (map (cell_in_row x y) (range_with_len 0 (suc n)))))) here
    ∙ ap (λ (k : ℕ). span_cost (span_from p (record { x = x; y = y }) k)) count

-- what follows from a fact of a run, if there is one
pub if_some : (found : Option Run) (P Q : Run → Type 0) → ((run : Run) → P run → Q run) → IfSome found P
    → IfSome found Q
if_some None P Q f is = tt
if_some (Some run) P Q f is = f run is

-- a span is the cells of a pattern whose pixels it has
pub run_drawn : (p own : Pattern) (y : ℕ) (run : Run) (before after : Stage) → PaintsAs p own y run
    → DrawsCells (run_span own y run) before after → DrawsRun p y (Some run) before after
unfolding shade
run_drawn p own y run before after paints drawn =
    let so : DrawsCells (run_span p y run) before after =
    subst (λ (s : Span). DrawsCells s before after) paints.span drawn in
    record {
      cells = so.cells
          ∙ row_same (shade_at (run_span p y run)) (pixel_at p) p.brush.mask run.x y run.n before.m
          (λ i lt now. let back : (run.x + i) - run.x ≡ i = omega arith in rw back (paints.alike i lt now));
      long = so.long;
      cost = rw (span_of_row p run.x y run.n paints.some) so.cost;
    }

-- ---- rows that are drawn one after another

pub rows_start : (f : Figure) (before : Stage) → DrawsRows f 0 before before
rows_start f before = record { cells = refl; long = refl; cost = omega arith }

spent : (before now next rows row : ℕ) → now ≤ before + rows → next ≤ now + row → next ≤ before + (rows + row)
spent before now next rows row so_far here = omega arith

pub rows_next : (f : Figure) (count : ℕ) (found : Option Run) (before now after : Stage)
    → run_cells found (f.top + count) ≡ f.row (f.top + count) → DrawsRows f count before now
    → DrawsRun f.pattern (f.top + count) found now after → DrawsRows f (count + 1) before after
rows_next f count found before now after is so_far run = record {
  cells = rw (add-one count)
      (run.cells
      ∙ ap (λ (cells : List Cell). painted_cells f.pattern cells now.m) is
      ∙ ap (painted_cells f.pattern (f.row (f.top + count))) so_far.cells
      ∙ sym (cells_append (pixel_at f.pattern) f.pattern.brush.mask (cells_down f.row f.top count)
      (f.row (f.top + count)) before.m));
  long = run.long ∙ so_far.long;
  cost = rw (add-one count)
      (spent _ _ _ _ _ so_far.cost
      (subst (λ cost. after.steps ≤ now.steps + cost) (ap (λ (cells : List Cell). side_by_side f.pattern cells) is)
      run.cost));
}
