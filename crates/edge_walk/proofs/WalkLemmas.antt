-- The columns of a row that the edges admit.
use Rattle.std.proofs.Common.{ℕ, ◌+◌, ◌/◌, ◌^◌, ◌≤◌, ◌<◌, ◌≡◌, ℤ, pos, ◌-ℤ◌, ◌≤ℤ◌, ◌↔◌, IsTrue, false}
use Rattle.std.proofs.Common.{FitsSigned, MatchOption, Option, None, Some, w32, arith}
use Rattle.std.specs.Int.{int_max, int_min}
use Rattle.std.proofs.lemmas.Int.{ints, clamps}
use Rattle.px_num.specs.declared.shape.Box2.{Box2}
use Rattle.edge_walk.specs.declared.edge_stepper.Ends.{Ends}
use Rattle.edge_walk.specs.declared.slope.Bound.TheVariants.{AtMost, Above}
use Rattle.edge_walk.specs.declared.row_scan.RowScan.{RowScan}
use Rattle.edge_walk.specs.Extent.{bounding_box}
use Rattle.edge_walk.specs.Row.{IsBetween, IsInBox, IsRowSpan}
use Rattle.edge_walk.specs.Triangle.{Corners, oriented, is_inside, is_on_side, IsDrawn}
use Rattle.edge_walk.specs.Walk.{in_parts, raised_column, AreRows, IsBounded, IsWithin}
use Rattle.edge_walk.proofs.Decided.{not_true}
use Rattle.edge_walk.proofs.InBox.{inside-in_box}
use Rattle.edge_walk.proofs.SideLemmas.{bounded}
use Rattle.edge_walk.proofs.TurnLemmas.{AreAcross, across, across_around, sides_around}

within_ends : (ends : Ends) (x : ℤ) → IsWithin ends (in_parts x)
    ↔ IsBetween (pos (ends.low / 2 ^ 30 + 1)) (pos (ends.high / 2 ^ 30)) (raised_column x)
within_ends ends x = (
  λ h. (omega (arith, ints, h.0), omega (arith, ints, h.1)),
  λ h.
      (omega (arith, ints, h.0), omega (arith, ints, h.1)),
)

low_end : (low : ℕ) (from x : ℤ) → pos low ≡ (in_parts from -ℤ pos 1)
    → IsBounded Above (pos low) (in_parts x) ↔ (from ≤ℤ x)
low_end low from x is = (λ h. omega (arith, ints, is, h), λ h. omega (arith, ints, is, h))

high_end : (high : ℕ) (last x : ℤ) → pos high ≡ in_parts last
    → IsBounded AtMost (pos high) (in_parts x) ↔ (x ≤ℤ last)
high_end high last x is = (λ h. omega (arith, ints, is, h), λ h. omega (arith, ints, is, h))

greater_of : (a b x : ℤ) → (int_max a b ≤ℤ x) ↔ ((a ≤ℤ x) × (b ≤ℤ x))
greater_of a b x =
    (λ h. (omega (arith, ints, clamps, h), omega (arith, ints, clamps, h)), λ h. omega (arith, ints, clamps, h.0, h.1))

lesser_of : (a b x : ℤ) → (x ≤ℤ int_min a b) ↔ ((x ≤ℤ a) × (x ≤ℤ b))
lesser_of a b x =
    (λ h. (omega (arith, ints, clamps, h), omega (arith, ints, clamps, h)), λ h. omega (arith, ints, clamps, h.0, h.1))

module _ (t : Corners) (clip : Box2) (x y : ℤ) (rows : RowScan) (h : AreRows t clip y rows) where
  own_columns : IsWithin rows.ends (in_parts x)
      ↔ (IsBetween clip.x1 clip.x2 x × IsBetween (bounding_box t).x1 (bounding_box t).x2 x)
  own_columns =
      let low = low_end rows.ends.low (int_max clip.x1 (bounding_box t).x1) x h.low in
      let high = high_end rows.ends.high (int_min clip.x2 (bounding_box t).x2) x h.high in
      let least = greater_of clip.x1 (bounding_box t).x1 x in
      let most = lesser_of clip.x2 (bounding_box t).x2 x in (
        λ w. let l = least.0 (low.0 w.0) in let m = most.0 (high.0 w.1) in ((l.0, m.0), (l.1, m.1)),
        λ b. (low.1 (least.1 (b.0.0, b.1.0)), high.1 (most.1 (b.0.1, b.1.1))),
      )

  on : IsTrue (is_inside t x y)
      ↔ (IsTrue (is_on_side h.around.first h.around.second x y) × IsTrue (is_on_side h.around.second h.around.third x y)
      × IsTrue (is_on_side h.around.third h.around.first x y))
  on = sides_around (oriented t) h.around x y h.turn

  module _ (ends : Ends)
      (left : (v : ℤ)
      → (IsWithin rows.ends v × IsBounded rows.first.bound (pos rows.first.at) v × IsBounded rows.second.bound
      (pos rows.second.at) v × IsBounded rows.third.bound (pos rows.third.at) v) ↔ IsWithin ends v) where
    first_bound : AreAcross h.around x → IsTrue (is_on_side h.around.first h.around.second x y)
        ↔ IsBounded rows.first.bound (pos rows.first.at) (in_parts x)
    first_bound near = bounded h.around.first h.around.second x y rows.first h.first near.first

    second_bound : AreAcross h.around x → IsTrue (is_on_side h.around.second h.around.third x y)
        ↔ IsBounded rows.second.bound (pos rows.second.at) (in_parts x)
    second_bound near = bounded h.around.second h.around.third x y rows.second h.second near.second

    third_bound : AreAcross h.around x → IsTrue (is_on_side h.around.third h.around.first x y)
        ↔ IsBounded rows.third.bound (pos rows.third.at) (in_parts x)
    third_bound near = bounded h.around.third h.around.first x y rows.third h.third near.third

    to : (IsBetween clip.x1 clip.x2 x × IsTrue (is_inside t x y)) → IsWithin ends (in_parts x)
    to i =
        let b = inside-in_box t x y h.drawn i.1 in
        let near = across_around (oriented t) h.around x h.turn (across t x h.small b.0.0 b.0.1) in
        let sides = on.0 i.1 in
        (left (in_parts x)).0 (
          own_columns.1 (i.0, b.0),
          (first_bound near).0 sides.0,
          (second_bound near).0 sides.1,
          (third_bound near).0 sides.2,
        )

    from : IsWithin ends (in_parts x) → (IsBetween clip.x1 clip.x2 x × IsTrue (is_inside t x y))
    from w =
        let parts = (left (in_parts x)).1 w in
        let own = own_columns.0 parts.0 in
        let near = across_around (oriented t) h.around x h.turn (across t x h.small own.1.0 own.1.1) in (
          own.0,
          on.1
              ((first_bound near).1 parts.1, (second_bound near).1 parts.2, (third_bound near).1 parts.3),
        )

    pub columns_are : (IsBetween clip.x1 clip.x2 x × IsTrue (is_inside t x y))
        ↔ IsBetween (pos (ends.low / 2 ^ 30 + 1)) (pos (ends.high / 2 ^ 30)) (raised_column x)
    columns_are = let w = within_ends ends x in (λ i. w.0 (to i), λ b. from (w.1 b))

-- ---- the span of a row

back : (raised : ℕ) → pos raised ≡ raised_column (pos raised -ℤ pos (2 ^ 32))
back raised = omega (arith, ints)

-- the column that a raised number represents
abbrev pub Lowers : ℕ → ℤ → Type 0
Lowers raised column = (x : ℤ) → FitsSigned w32 x → pos raised ≡ raised_column x → column ≡ x

module _ (t : Corners) (clip : Box2) (y : ℤ) (rows : RowScan) (h : AreRows t clip y rows) (low high : ℕ)
    (cells : (x : ℤ) → (IsBetween clip.x1 clip.x2 x × IsTrue (is_inside t x y))
    ↔ IsBetween (pos low) (pos high) (raised_column x)) where
  abbrev lowered_of : ℕ → ℤ
  lowered_of raised = pos raised -ℤ pos (2 ^ 32)

  plain_cells : (x : ℤ) → (IsBetween clip.x1 clip.x2 x × IsTrue (is_inside t x y))
      ↔ IsBetween (lowered_of low) (lowered_of high) x
  plain_cells x = (
    λ i. let b = (cells x).0 i in (omega (arith, ints, b.0), omega (arith, ints, b.1)),
    λ b. (cells x).1 (omega (arith, ints, b.0), omega (arith, ints, b.1)),
  )

  lowered : (raised : ℕ) (column : ℤ) → IsBetween (lowered_of low) (lowered_of high) (lowered_of raised)
      → Lowers raised column → column ≡ lowered_of raised
  lowered raised column between lowers =
      let inside = (plain_cells (lowered_of raised)).1 between in
      let own = inside-in_box t (lowered_of raised) y h.drawn inside.1 in
      let left_fits = h.left_fits in
      let right_fits = h.right_fits in
      lowers (lowered_of raised) (omega (arith, ints, own.0.0, own.0.1, left_fits, right_fits))
      (back raised)

  pub span_of : low ≤ high → y ≤ℤ clip.y2 → (first last : ℤ) → Lowers low first
      → Lowers high last → IsRowSpan t y clip first last
  span_of order more first last to_first to_last =
      let ordered : lowered_of low ≤ℤ lowered_of high = omega (arith, ints, order) in
      let first_is = lowered low first (omega (arith, ints), ordered) to_first in
      let last_is = lowered high last (ordered, omega (arith, ints)) to_last in
      rw (first_is, last_is) (record {
        order = ordered;
        cells = λ x. (
          λ i. (plain_cells x).0 (i.0.0, i.1),
          λ b. let i = (plain_cells x).1 b in ((i.0, (h.above, more)), i.1),
        );
      })

  pub none_of : high < low → (x : ℤ) → IsInBox clip x y → is_inside t x y ≡ false
  none_of empty x box = not_true (is_inside t x y)
      (λ i. let b = (plain_cells x).0 (box.0, i) in omega (arith, ints, b.0, b.1, empty))

-- ---- a single row

abbrev pub row_of : Box2 → ℤ → Box2
row_of clip y = record { x1 = clip.x1; y1 = y; x2 = clip.x2; y2 = y }

-- the span of a single row is that of the row in a box that contains it
module _ (t : Corners) (clip : Box2) (y : ℤ) (above : clip.y1 ≤ℤ y) (below : y ≤ℤ clip.y2) where
  own : IsBetween y y y
  own = (omega (arith, ints), omega (arith, ints))

  span_in : (first last : ℤ) → IsRowSpan t y (row_of clip y) first last → IsRowSpan t y clip first last
  span_in first last h = record {
    order = h.order;
    cells = λ x. (
      λ i. (h.cells x).0 ((i.0.0, own), i.1),
      λ b. let i = (h.cells x).1 b in ((i.0.0, (above, below)), i.1),
    );
  }

  pub answer_in : (found : Option (ℤ × ℤ))
      → MatchOption found ((x : ℤ) → IsInBox (row_of clip y) x y → is_inside t x y ≡ false)
      (λ span. IsRowSpan t y (row_of clip y) span.0 span.1)
      → MatchOption found ((x : ℤ) → IsInBox clip x y → is_inside t x y ≡ false)
      (λ span. IsRowSpan t y clip span.0 span.1)
  answer_in None h = λ x box. h x (box.0, own)
  answer_in (Some span) h = span_in span.0 span.1 h

-- a row above or below the triangle has no cell
pub none_beyond : (t : Corners) (clip : Box2) (y : ℤ) → IsDrawn t
    → (IsBetween (int_max clip.y1 (bounding_box t).y1) (int_min clip.y2 (bounding_box t).y2) y → ⊥)
    → (x : ℤ) → IsInBox clip x y → is_inside t x y ≡ false
none_beyond t clip y drawn out x box = not_true (is_inside t x y)
    (λ i. let own = inside-in_box t x y drawn i in
    out (omega (arith, ints, clamps, box.1.0, own.1.0), omega (arith, ints, clamps, box.1.1, own.1.1)))
