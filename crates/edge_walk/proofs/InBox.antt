-- A cell inside a triangle is in its bounding box: it is the mean of the corners, weighted by edge values.
use Rattle.std.proofs.Common.{◌<◌, ◌≡◌, ℤ, pos, negsuc, ◌+ℤ◌, ◌-ℤ◌, ◌*ℤ◌, ◌≤ℤ◌, ◌<ℤ◌, IsTrue, true, false, Bool, int_lt}
use Rattle.std.proofs.Common.{cond, refl, arith}
use Rattle.std.proofs.lemmas.Int.{ints, clamps, by_lt_z}
use Rattle.std.proofs.Math.Nat.{le-mul_of_pos_right}
use Rattle.px_num.specs.declared.shape.Vertex.{Vertex}
use Rattle.px_num.proofs.Ring.{Poly, at, add, sub, mul, same}
use Rattle.edge_walk.specs.Extent.{bounding_box, least_of, most_of}
use Rattle.edge_walk.specs.Row.{IsInBox}
use Rattle.edge_walk.specs.Triangle.{Corners, corners, edge, doubled_area, oriented, is_within, is_inside, IsDrawn}
use Rattle.edge_walk.specs.Triangle.{IsUpright}
use Rattle.edge_walk.proofs.Corner.{sum_of_edges, upright_turned, upright_kept}
use Rattle.edge_walk.proofs.WeightLemmas.{positive_edges}

abbrev cross : ℤ → ℤ → ℤ → ℤ → ℤ
cross a b c d = a *ℤ d -ℤ b *ℤ c

abbrev poly_cross : ℤ → ℤ → ℤ → ℤ → Poly
poly_cross a b c d = sub (mul (at a) (at d)) (mul (at b) (at c))

edge_cross : (p q : Vertex) (x y : ℤ) → edge p q x y ≡ cross (p.x -ℤ x) (p.y -ℤ y) (q.x -ℤ x) (q.y -ℤ y)
unfolding edge
edge_cross p q x y = same
    (sub (mul (sub (at q.x) (at p.x)) (sub (at y) (at p.y))) (mul (sub (at q.y) (at p.y)) (sub (at x) (at p.x))))
    (sub (mul (sub (at p.x) (at x)) (sub (at q.y) (at y))) (mul (sub (at p.y) (at y)) (sub (at q.x) (at x))))
    (omega arith)

module _ (ax ay bx by_ cx cy : ℤ) where
  balance_x : cross bx by_ cx cy *ℤ ax +ℤ cross cx cy ax ay *ℤ bx +ℤ cross ax ay bx by_ *ℤ cx ≡ pos 0
  balance_x = same (add (add (mul (poly_cross bx by_ cx cy) (at ax)) (mul (poly_cross cx cy ax ay) (at bx)))
      (mul (poly_cross ax ay bx by_) (at cx))) (at (pos 0)) (omega arith)

  balance_y : cross bx by_ cx cy *ℤ ay +ℤ cross cx cy ax ay *ℤ by_ +ℤ cross ax ay bx by_ *ℤ cy ≡ pos 0
  balance_y = same (add (add (mul (poly_cross bx by_ cx cy) (at ay)) (mul (poly_cross cx cy ax ay) (at by_)))
      (mul (poly_cross ax ay bx by_) (at cy))) (at (pos 0)) (omega arith)

-- weights of at least 0, not all 0, that balance three numbers
record AreWeights (u v w a b c : ℤ) : Type 0 where
  one : pos 0 ≤ℤ u
  two : pos 0 ≤ℤ v
  three : pos 0 ≤ℤ w
  some : pos 0 <ℤ (u +ℤ v +ℤ w)
  even : u *ℤ a +ℤ v *ℤ b +ℤ w *ℤ c ≡ pos 0

grown : (w d : ℤ) → pos 0 ≤ℤ w → pos 0 <ℤ d → w ≤ℤ (w *ℤ d)
grown (pos w) (pos d) h k = let d_pos : 0 < d = omega (arith, ints) in omega (arith, ints, le-mul_of_pos_right w d_pos)
grown (pos w) (negsuc d) h k = absurd (omega (arith, ints))
grown (negsuc w) d h k = absurd (omega (arith, ints))

fallen : (w d : ℤ) → pos 0 ≤ℤ w → d <ℤ pos 0 → (w *ℤ d) ≤ℤ (pos 0 -ℤ w)
fallen w d h k =
    let turned = same (mul (at w) (sub (at (pos 0)) (at d))) (sub (at (pos 0)) (mul (at w) (at d))) (omega arith) in
    let more = grown w (pos 0 -ℤ d) h (omega (arith, ints)) in
    omega (arith, ints, turned, more)

module _ (u v w a b c : ℤ) (h : AreWeights u v w a b c) where
  not_all_above : pos 0 <ℤ a → pos 0 <ℤ b → pos 0 <ℤ c → ⊥
  not_all_above f g k = omega (arith, ints, grown u a h.one f, grown v b h.two g, grown w c h.three k, h.some, h.even)

  not_all_below : a <ℤ pos 0 → b <ℤ pos 0 → c <ℤ pos 0 → ⊥
  not_all_below f g k = omega
      (arith, ints, fallen u a h.one f, fallen v b h.two g, fallen w c h.three k, h.some, h.even)

between : (u v w a b c x : ℤ) → AreWeights u v w (a -ℤ x) (b -ℤ x) (c -ℤ x)
    → (least_of a b c ≤ℤ x) × (x ≤ℤ most_of a b c)
between u v w a b c x h = (
  by_lt_z x (least_of a b c)
      (λ beyond. absurd (not_all_above u v w _ _ _ h (omega (arith, ints, clamps)) (omega (arith, ints, clamps))
      (omega (arith, ints, clamps)))) (λ le. le),
  by_lt_z (most_of a b c) x
      (λ beyond. absurd (not_all_below u v w _ _ _ h (omega (arith, ints, clamps)) (omega (arith, ints, clamps))
      (omega (arith, ints, clamps)))) (λ le. le),
)

pub within-in_box : (a b c : Vertex) (x y : ℤ) → IsUpright (corners a b c) → IsTrue (is_within (corners a b c) x y)
    → IsInBox (bounding_box (corners a b c)) x y
unfolding bounding_box
within-in_box a b c x y oriented_triangle inside =
    let low = positive_edges a b c x y inside in
    let sum = sum_of_edges a b c x y in
    let some : pos 0 <ℤ (edge b c x y +ℤ edge c a x y +ℤ edge a b x y) =
    omega (arith, ints, sum, oriented_triangle.area) in (
      between (edge b c x y) (edge c a x y) (edge a b x y) a.x b.x c.x x (record {
        one = low.1;
        two = low.2;
        three = low.0;
        some = some;
        even = rw (edge_cross b c x y, edge_cross c a x y, edge_cross a b x y)
            (balance_x (a.x -ℤ x) (a.y -ℤ y) (b.x -ℤ x) (b.y -ℤ y) (c.x -ℤ x) (c.y -ℤ y));
      }),
      between (edge b c x y) (edge c a x y) (edge a b x y) a.y b.y c.y y (record {
        one = low.1;
        two = low.2;
        three = low.0;
        some = some;
        even = rw (edge_cross b c x y, edge_cross c a x y, edge_cross a b x y)
            (balance_y (a.x -ℤ x) (a.y -ℤ y) (b.x -ℤ x) (b.y -ℤ y) (c.x -ℤ x) (c.y -ℤ y));
      }),
    )

box_turned : (a b c : Vertex) (x y : ℤ) → IsInBox (bounding_box (corners a c b)) x y
    → IsInBox (bounding_box (corners a b c)) x y
unfolding bounding_box
box_turned a b c x y h = (
  (omega (arith, ints, clamps, h.0.0), omega (arith, ints, clamps, h.0.1)),
  (omega (arith, ints, clamps, h.1.0), omega (arith, ints, clamps, h.1.1)),
)

by_turn : (t : Corners) (x y : ℤ) (turned : Bool) → turned ≡ int_lt (doubled_area t) (pos 0) → IsDrawn t
    → IsTrue (is_within (cond turned (corners t.first t.third t.second) t) x y) → IsInBox (bounding_box t) x y
by_turn t x y true e drawn inside = box_turned t.first t.second t.third x y
    (within-in_box t.first t.third t.second x y (upright_turned t drawn e) inside)
by_turn t x y false e drawn inside = within-in_box t.first t.second t.third x y (upright_kept t drawn e) inside

pub inside-in_box : (t : Corners) (x y : ℤ) → IsDrawn t → IsTrue (is_inside t x y) → IsInBox (bounding_box t) x y
unfolding oriented
inside-in_box t x y drawn inside = by_turn t x y (int_lt (doubled_area t) (pos 0)) refl drawn inside
