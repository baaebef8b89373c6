use Rattle.std.proofs.Common.{ℕ, ◌≡◌, ◌≤◌, ◌+◌, ◌-◌, ◌-ℤ◌, ◌+ℤ◌, ◌≤ℤ◌, ℤ, pos, unsigned_abs, w32, SFits, sym, ap, ◌∙◌}
use Rattle.std.proofs.Common.{subst, arith}
use Rattle.std.proofs.lemmas.Int.{to_z-of_z, ints}
use Rattle.edge_walk.specs.Row.{IsRowSpan}
use Rattle.span_lanes.specs.declared.span.ClipRect.{ClipRect}
use Rattle.span_lanes.specs.Figures.Boxes.{clip_rect_of, row_box}
use Rattle.span_lanes.specs.Pattern.{LiesInClip}
use Rattle.span_lanes.specs.Figures.Triangles.{draws, row_inside, IsScanRow}
use Rattle.span_lanes.specs.declared.span.Run.{Run}
use Rattle.span_lanes.proofs.WalkLemmas.{IsBoxOf, at_row, box_is, row_none, row_span}
use Rattle.span_lanes.proofs.RowLemmas.{IsFound, filtered, first_in, found, last_in, none_found}
use Rattle.span_lanes.proofs.figures.triangle.TriangleRowsRows.run_at.Goals as goal

-- the row of the scan
is_row : (c : goal.In-Some) → IsScanRow c.args.self.now.tri.now c.args.self.now.clip.now c.args._y c.args.self.now.walk
is_row c = at_row c.args.self.now c.args._y c.requires.stands c.requires.within

-- the box as a clip rectangle
clip_rect : (c : goal.In-Some) → ClipRect
clip_rect c = clip_rect_of c.args.self.now.clip.now

span : (c : goal.In-Some)
    → IsRowSpan c.args.self.now.tri.now (pos c.args._y) (row_box (clip_rect c) c.args._y) c.in-Some.first c.in-Some.last
unfolding clip_rect
span c = let is = is_row c in row_span _ _ _ _ is _ _ (c.in-Some.ensures.span _ _ _ is.stands is.in_box)

box : (c : goal.In-Some)
    → IsBoxOf c.args.self.now.clip.now (clip_rect c).x (clip_rect c).y (clip_rect c).w (clip_rect c).h
unfolding clip_rect
box c = box_is c.args.self.now.clip.now c.requires.stands.on_screen

first_is : (c : goal.In-Some) → (pos (clip_rect c).x ≤ℤ c.in-Some.first)
    × (c.in-Some.first ≤ℤ pos ((clip_rect c).x + (clip_rect c).w - 1))
first_is c = first_in c.args.self.now.tri.now (clip_rect c) c.args._y _ _ (box c).some (span c)

last_is : (c : goal.In-Some) → (pos (clip_rect c).x ≤ℤ c.in-Some.last)
    × (c.in-Some.last ≤ℤ pos ((clip_rect c).x + (clip_rect c).w - 1))
last_is c = last_in c.args.self.now.tri.now (clip_rect c) c.args._y _ _ (box c).some (span c)

-- the ends of a row fit in 32 bits, and so do the values computed from them
record Fit (first last : ℤ) : Type 0 where
  one : SFits w32 first
  two : SFits w32 last
  width : SFits w32 (last -ℤ first)
  count : SFits w32 (last -ℤ first +ℤ pos 1)
  number : unsigned_abs (last -ℤ first +ℤ pos 1) ≡ unsigned_abs (last -ℤ first) + 1

fit : (b : ClipRect) (first last : ℤ) → b.x + b.w ≤ 1024 → (pos b.x ≤ℤ first) × (first ≤ℤ pos (b.x + b.w - 1))
    → (pos b.x ≤ℤ last) × (last ≤ℤ pos (b.x + b.w - 1))
    → first ≤ℤ last → Fit first last
fit b first last right f l order = record {
  one = omega (arith, ints, f.0, f.1);
  two = omega (arith, ints, l.0, l.1);
  width = omega (arith, ints, f.0, f.1, l.0, l.1);
  count = omega (arith, ints, f.0, f.1, l.0, l.1);
  number = omega (arith, ints, order);
}

fits : (c : goal.In-Some) → Fit c.in-Some.first c.in-Some.last
fits c = fit (clip_rect c) _ _ (box c).in_row (first_is c) (last_is c) (span c).order

pub overflow_cast-result : goal.overflow_cast-result
overflow_cast-result c = let f = first_is c in let h = fits c in let one = h.one in
    simp to_z-of_z (omega (arith, ints, f.0, f.1, (box c).in_row), omega (arith, ints, f.0, f.1, (box c).in_row))

pub overflow_sub-result : goal.overflow_sub-result
overflow_sub-result c = let h = fits c in let one = h.one in let two = h.two in simp to_z-of_z h.width

pub overflow_add-result : goal.overflow_add-result
overflow_add-result c = let h = fits c in let one = h.one in let two = h.two in let width = h.width in
    simp to_z-of_z h.count

pub overflow_cast-result-in-Some : goal.overflow_cast-result-in-Some
overflow_cast-result-in-Some c =
    let h = fits c in let one = h.one in let two = h.two in let width = h.width in let count = h.count in
    let f = first_is c in let l = last_is c in let order = (span c).order in
    simp to_z-of_z (omega (arith, ints, order), omega (arith, ints, f.0, l.1, order, (box c).in_row))

-- the run of the row
run : (c : goal.In-Some)
    → IsFound c.args.self.now.tri.now (clip_rect c) c.args._y (unsigned_abs c.in-Some.first)
    (unsigned_abs (c.in-Some.last -ℤ c.in-Some.first) + 1)
unfolding clip_rect
run c = found c.args.self.now.tri.now (clip_rect c) c.args._y _ _ (box c).some (span c)

next_row : (y : ℕ) → pos y +ℤ pos 1 ≡ pos (y + 1)
next_row y = omega (arith, ints)

pub returns-in-None-clause-found : goal.returns-in-None-clause-found
returns-in-None-clause-found c =
    let rows = c.args.self.now in
    let is = at_row rows c.args._y c.requires.stands c.requires.within in
    sym
    (none_found rows.tri.now (clip_rect_of rows.clip.now) c.args._y (box_is rows.clip.now is.on_screen).some
    (row_none _ _ _ _ is (c.in-None.ensures.span _ _ _ is.stands is.in_box)))
    ∙ ap (λ (b : ClipRect). row_inside rows.tri.now b c.args._y) (sym c.requires.stands.clip_rect)

pub returns-in-None-clause-next : goal.returns-in-None-clause-next
returns-in-None-clause-next c =
    let at = c.requires.stands in
    let is = at_row c.args.self.now c.args._y at c.requires.within in
    record {
      on_screen = at.on_screen;
      clip_rect = at.clip_rect;
      stands = rw (← next_row c.args._y) (c.in-None.ensures.next _ _ _ is.stands is.in_box);
    }

pub returns-in-Some-clause-found : goal.returns-in-Some-clause-found
unfolding clip_rect
returns-in-Some-clause-found c =
    let h = fits c in let one = h.one in let two = h.two in let width = h.width in let count = h.count in
    let rows = c.args.self.now in
    let r = run c in
    simp to_z-of_z
    (rw h.number
    (sym (filtered (draws rows.tri.now) (clip_rect c).x c.args._y (clip_rect c).w _ _ r.left r.cells r.right)
    ∙ ap (λ (b : ClipRect). row_inside rows.tri.now b c.args._y) (sym c.requires.stands.clip_rect)))

pub returns-in-Some-clause-gives : goal.returns-in-Some-clause-gives
unfolding clip_rect
returns-in-Some-clause-gives c =
    let h = fits c in let one = h.one in let two = h.two in let width = h.width in let count = h.count in
    let r = run c in
    let is = is_row c in
    simp to_z-of_z
    (rw h.number (
      record { some = r.some; in_row = omega (arith, r.right, (box c).in_row); inside = r.inside },
      let run : Run = record {
        x = unsigned_abs c.in-Some.first;
        n = unsigned_abs (c.in-Some.last -ℤ c.in-Some.first) + 1;
      } in
          subst (λ (b : ClipRect). LiesInClip b c.args._y run) (sym c.requires.stands.clip_rect)
          (record {
            left = r.left;
            right = r.right;
            top = omega (arith, ints, is.stands.above, (box c).top);
            bottom = omega (arith, ints, is.in_box, (box c).bottom, (box c).rows);
          }),
    ))

pub returns-in-Some-clause-next : goal.returns-in-Some-clause-next
returns-in-Some-clause-next c =
    let at = c.requires.stands in
    let is = is_row c in
    record {
      on_screen = at.on_screen;
      clip_rect = at.clip_rect;
      stands = rw (← next_row c.args._y) (c.in-Some.ensures.next _ _ _ is.stands is.in_box);
    }
