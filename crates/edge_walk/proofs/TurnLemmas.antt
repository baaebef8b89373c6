-- Columns and rows of a triangle are near its vertices, whichever of them is first.
use Rattle.std.proofs.Common.{◌≤◌, ℤ, pos, ◌+ℤ◌, ◌-ℤ◌, ◌≤ℤ◌, ◌↔◌, Bool, true, false, cond, IsTrue, ◌&&◌, int_lt}
use Rattle.std.proofs.Common.{unsigned_abs, inl, inr, sym, subst, arith}
use Rattle.std.proofs.lemmas.Int.{ints, clamps}
use Rattle.px_num.specs.declared.shape.Box2.{Box2}
use Rattle.edge_walk.specs.Extent.{bounding_box}
use Rattle.edge_walk.specs.Triangle.{Corners, corners, doubled_area, oriented, is_within, is_on_side, IsSmall, IsTurn}
use Rattle.edge_walk.specs.Triangle.{turned}
use Rattle.edge_walk.specs.Walk.{HasRows}
use Rattle.edge_walk.proofs.RowLemmas.{both_true}

pub record AreAcross (t : Corners) (x : ℤ) : Type 0 where
  pub first : unsigned_abs (x -ℤ t.first.x) ≤ 1023
  pub second : unsigned_abs (x -ℤ t.second.x) ≤ 1023
  pub third : unsigned_abs (x -ℤ t.third.x) ≤ 1023

across_by_turn : (t : Corners) (x : ℤ) (turned : Bool) → IsSmall (cond turned (corners t.first t.third t.second) t)
    → (bounding_box t).x1 ≤ℤ x → x ≤ℤ (bounding_box t).x2
    → AreAcross (cond turned (corners t.first t.third t.second) t) x
unfolding bounding_box
across_by_turn t x true small low high = record {
  first = omega (arith, ints, clamps, small.one.across, small.two.across, small.three.across, low, high);
  second = omega (arith, ints, clamps, small.one.across, small.two.across, small.three.across, low, high);
  third = omega (arith, ints, clamps, small.one.across, small.two.across, small.three.across, low, high);
}
across_by_turn t x false small low high = record {
  first = omega (arith, ints, clamps, small.one.across, small.two.across, small.three.across, low, high);
  second = omega (arith, ints, clamps, small.one.across, small.two.across, small.three.across, low, high);
  third = omega (arith, ints, clamps, small.one.across, small.two.across, small.three.across, low, high);
}

pub across : (t : Corners) (x : ℤ) → IsSmall (oriented t) → (bounding_box t).x1 ≤ℤ x → x ≤ℤ (bounding_box t).x2
    → AreAcross (oriented t) x
unfolding oriented
across t x small low high = across_by_turn t x (int_lt (doubled_area t) (pos 0)) small low high

pub record AreReached (t : Corners) (y : ℤ) : Type 0 where
  pub first : unsigned_abs (y -ℤ t.first.y) ≤ 512
  pub second : unsigned_abs (y -ℤ t.second.y) ≤ 512
  pub third : unsigned_abs (y -ℤ t.third.y) ≤ 512

by_turn : (t : Corners) (clip : Box2) (y : ℤ) (turned : Bool)
    → IsSmall (cond turned (corners t.first t.third t.second) t) → HasRows t clip → clip.y1 ≤ℤ y
    → y ≤ℤ (clip.y2 +ℤ pos 1)
    → AreReached (cond turned (corners t.first t.third t.second) t) y
unfolding bounding_box
by_turn t clip y true small box above below = record {
  first = omega
      (arith, ints, clamps, small.one.down, small.two.down, small.three.down, box.top, box.bottom, above, below);
  second = omega
      (arith, ints, clamps, small.one.down, small.two.down, small.three.down, box.top, box.bottom, above, below);
  third = omega
      (arith, ints, clamps, small.one.down, small.two.down, small.three.down, box.top, box.bottom, above, below);
}
by_turn t clip y false small box above below = record {
  first = omega
      (arith, ints, clamps, small.one.down, small.two.down, small.three.down, box.top, box.bottom, above, below);
  second = omega
      (arith, ints, clamps, small.one.down, small.two.down, small.three.down, box.top, box.bottom, above, below);
  third = omega
      (arith, ints, clamps, small.one.down, small.two.down, small.three.down, box.top, box.bottom, above, below);
}

pub reached : (t : Corners) (clip : Box2) (y : ℤ) → IsSmall (oriented t) → HasRows t clip → clip.y1 ≤ℤ y
    → y ≤ℤ (clip.y2 +ℤ pos 1) → AreReached (oriented t) y
unfolding oriented
reached t clip y small box above below = by_turn t clip y (int_lt (doubled_area t) (pos 0)) small box above below

-- ---- the same triangle, starting at another vertex

by_turns : (t u : Corners) (P : Corners → Type 0) → IsTurn t u → P t → P (turned t) → P (turned (turned t)) → P u
by_turns t u P turn one two three =
    elim turn [
      | inl e ↦ subst P (sym e) one
      | inr f ↦ elim f [
        | inl e ↦ subst P (sym e) two
        | inr e ↦ subst P
            (sym e) three
      ]
    ]

pub small_around : (t u : Corners) → IsTurn t u → IsSmall t → IsSmall u
small_around t u turn h = by_turns t u (λ w. IsSmall w) turn h (record { one = h.two; two = h.three; three = h.one })
    (record { one = h.three; two = h.one; three = h.two })

pub across_around : (t u : Corners) (x : ℤ) → IsTurn t u → AreAcross t x → AreAcross u x
across_around t u x turn h = by_turns t u (λ w. AreAcross w x) turn h
    (record { first = h.second; second = h.third; third = h.first })
    (record { first = h.third; second = h.first; third = h.second })

pub reached_around : (t u : Corners) (y : ℤ) → IsTurn t u → AreReached t y → AreReached u y
reached_around t u y turn h = by_turns t u (λ w. AreReached w y) turn h
    (record { first = h.second; second = h.third; third = h.first })
    (record { first = h.third; second = h.first; third = h.second })

on_sides : (u : Corners) (x y : ℤ) → IsTrue (is_within u x y)
    ↔ (IsTrue (is_on_side u.first u.second x y) × IsTrue (is_on_side u.second u.third x y)
    × IsTrue (is_on_side u.third u.first x y))
unfolding is_within
on_sides u x y =
    let outer = both_true (is_on_side u.first u.second x y && is_on_side u.second u.third x y)
    (is_on_side u.third u.first x y) in
    let inner = both_true (is_on_side u.first u.second x y) (is_on_side u.second u.third x y) in
    (λ t. let o = outer.0 t in let i = inner.0 o.0 in (i.0, i.1, o.1), λ s. outer.1 (inner.1 (s.0, s.1), s.2))

pub sides_around : (t u : Corners) (x y : ℤ) → IsTurn t u → IsTrue (is_within t x y)
    ↔ (IsTrue (is_on_side u.first u.second x y) × IsTrue (is_on_side u.second u.third x y)
    × IsTrue (is_on_side u.third u.first x y))
sides_around t u x y turn =
    let on = on_sides t x y in
    by_turns t u (λ w. IsTrue (is_within t x y)
    ↔ (IsTrue (is_on_side w.first w.second x y) × IsTrue (is_on_side w.second w.third x y)
    × IsTrue (is_on_side w.third w.first x y))) turn on
    (λ i. let s = on.0 i in (s.1, s.2, s.0), λ s. on.1 (s.2, s.0, s.1))
    (λ i. let s = on.0 i in (s.2, s.0, s.1), λ s. on.1 (s.1, s.2, s.0))
