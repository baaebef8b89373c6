-- Triangles whose rows have contiguous texels.
use Rattle.std.proofs.Common.{ℕ, ◌+◌, ◌*◌, ◌/◌, ◌<◌, ◌≡◌, ℤ, pos, ◌+ℤ◌, ◌*ℤ◌, IsTrue, unsigned_abs, sym, ap}
use Rattle.std.proofs.Common.{◌∙◌, arith}
use Rattle.std.proofs.lemmas.Int.{ints}
use Rattle.std.proofs.Math.Nat.{add-mul-div_left}
use Rattle.px_num.specs.declared.shape.Vertex.{Vertex}
use Rattle.edge_walk.specs.Triangle.{Corners, corners, oriented, doubled_area, is_within, IsUpright}
use Rattle.edge_walk.specs.Attribute.{mixed_of, step_of, AreBytes, IsUnscaled}
use Rattle.edge_walk.proofs.Corner.{inside_is}
use Rattle.edge_walk.proofs.SumLemmas.{lane_is, sum_at}

rising : (start area i : ℕ) → 0 < area → unsigned_abs (pos start +ℤ pos area *ℤ pos i) / area ≡ start / area + i
rising start area i some =
    let whole : unsigned_abs (pos start +ℤ pos area *ℤ pos i) ≡ start + area * i = omega (arith, ints) in
    ap (λ z. z / area) whole ∙ add-mul-div_left start i some

staying : (start area i : ℕ) → unsigned_abs (pos start +ℤ pos 0 *ℤ pos i) / area ≡ start / area
staying start area i =
    let whole : unsigned_abs (pos start +ℤ pos 0 *ℤ pos i) ≡ start = omega (arith, ints) in
    ap (λ z. z / area) whole

-- an attribute that increases by 1
pub one_more : (a b c : Vertex) (which area : ℕ) (x y step : ℤ) (i : ℕ) → IsUpright (corners a b c)
    → AreBytes which (corners a b c) → pos area ≡ doubled_area (corners a b c)
    → step ≡ step_of (corners a b c) which → step ≡ pos area → IsTrue (is_within (corners a b c) x y)
    → IsTrue (is_within (corners a b c) (x +ℤ pos i) y)
    → mixed_of (corners a b c) which (x +ℤ pos i) y ≡ mixed_of (corners a b c) which x y + i
unfolding mixed_of
one_more a b c which area x y step i oriented_triangle bytes area_is step_is rises here there =
    let lane = lane_is a b c which area x y i step here there bytes area_is step_is in
    let whole : unsigned_abs (doubled_area (corners a b c)) ≡ area = ap unsigned_abs (sym area_is) in
    sym lane.value
    ∙ rw (rises, whole) (rising (sum_at a b c which x y) area i (omega (arith, ints, area_is, oriented_triangle.area)))

-- an attribute that does not change
pub the_same : (a b c : Vertex) (which area : ℕ) (x y step : ℤ) (i : ℕ) → IsUpright (corners a b c)
    → AreBytes which (corners a b c) → pos area ≡ doubled_area (corners a b c)
    → step ≡ step_of (corners a b c) which → step ≡ pos 0 → IsTrue (is_within (corners a b c) x y)
    → IsTrue (is_within (corners a b c) (x +ℤ pos i) y)
    → mixed_of (corners a b c) which (x +ℤ pos i) y ≡ mixed_of (corners a b c) which x y
unfolding mixed_of
the_same a b c which area x y step i oriented_triangle bytes area_is step_is stays here there =
    let lane = lane_is a b c which area x y i step here there bytes area_is step_is in
    let whole : unsigned_abs (doubled_area (corners a b c)) ≡ area = ap unsigned_abs (sym area_is) in
    sym lane.value ∙ rw (stays, whole) (staying (sum_at a b c which x y) area i)

-- along the rows of a triangle
pub unscaled_is : (t : Corners) (a b c : Vertex) (area : ℕ) (across down : ℤ) → corners a b c ≡ oriented t
    → IsUpright (corners a b c) → AreBytes 3 (corners a b c) → AreBytes 4 (corners a b c)
    → pos area ≡ doubled_area (corners a b c) → across ≡ step_of (corners a b c) 3
    → down ≡ step_of (corners a b c) 4 → across ≡ pos area → down ≡ pos 0 → IsUnscaled t
unscaled_is t a b c area across down same oriented_triangle us vs area_is across_is down_is rises stays = record {
  across = λ x y i here there.
      ap (λ w. mixed_of w 3 (x +ℤ pos i) y) (sym same)
      ∙ one_more a b c 3 area x y across i oriented_triangle us area_is across_is rises
      (sym (inside_is t a b c same x y) ∙ here)
      (sym (inside_is t a b c same (x +ℤ pos i) y) ∙ there)
      ∙ ap (λ w. mixed_of w 3 x y + i) same;
  down = λ x y i here there.
      ap (λ w. mixed_of w 4 (x +ℤ pos i) y) (sym same)
      ∙ the_same a b c 4 area x y down i oriented_triangle vs area_is down_is stays
      (sym (inside_is t a b c same x y) ∙ here)
      (sym (inside_is t a b c same (x +ℤ pos i) y) ∙ there)
      ∙ ap (λ w. mixed_of w 4 x y) same;
}
