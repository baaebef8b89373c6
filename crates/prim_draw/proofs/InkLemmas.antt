-- Segments whose points are all drawn as one halfword, and walks along segments.
use Rattle.std.proofs.Common.{◌≡◌, ◌≤◌, ◌+◌, ◌%◌, ◌^◌, ℕ, zero, suc, ℤ, pos, ◌≤ℤ◌, List, Option, None, Some, Bool, true}
use Rattle.std.proofs.Common.{false, cond, refl, ap, sym, ◌∙◌, arith, add-one}
use Rattle.std.specs.Prelude.{IfSome}
use Rattle.std.proofs.lemmas.Int.{ints, clamps}
use Rattle.px_num.specs.declared.shape.Box2.{Box2}
use Rattle.px_num.specs.declared.shape.Vertex.{Vertex}
use Rattle.px_num.proofs.FoldLemmas.{each_below-next, each_below-same}
use Rattle.line_walk.specs.Line.{Ends, len_of, point_of, steps_of, color_along, IsBetweenEnds}
use Rattle.line_walk.specs.Walk.{Walking}
use Rattle.line_walk.proofs.RiseLemmas.{point_of-between, color-same}
use Rattle.span_lanes.specs.declared.span.Brush.{Brush}
use Rattle.span_lanes.specs.Shade.{dither_of}
use Rattle.vram_store.specs.Vram.{set}
use Rattle.prim_draw.specs.Costs.{points_cost}
use Rattle.prim_draw.specs.PointColor.{IsPointColor, ArePointsColored, IsInMemory, colored_points}
use Rattle.prim_draw.specs.Lines.{cell_of, drawn_point, drawn_points, is_between, is_in, plotted}
use Rattle.gp1_status.specs.Drawing.{IsArea}
use Rattle.prim_draw.proofs.PointLemmas.{columns_of, rows_of}

-- ---- a walk

pub next_point : (w : Walking) (p : Vertex) (s : Ends) (k : ℕ) → ◌≡◌ {A = Walking} w (record { ends = s; at = k })
    → p ≡ point_of w.ends w.at → p ≡ point_of s k
next_point w p s k here is = is ∙ ap (λ (v : Walking). point_of v.ends v.at) here

pub next_walk : (w now : Walking) (s : Ends) (k : ℕ) → ◌≡◌ {A = Walking} w (record { ends = s; at = k })
    → ◌≡◌ {A = Walking} now (record { ends = w.ends; at = w.at + 1 })
    → ◌≡◌ {A = Walking} now (record { ends = s; at = k + 1 })
next_walk w now s k here on = on ∙ ap (λ (v : Walking). record { ends = v.ends; at = v.at + 1 }) here

pub points_next : (area : Box2) (brush : Brush) (s : Ends) (k : ℕ) (m now new : List ℕ) (p : Vertex)
    → now ≡ drawn_points area brush s k m → p ≡ point_of s k
    → new ≡ drawn_point area brush p now → new ≡ drawn_points area brush s (k + 1) m
points_next area brush s k m now new p so_far at drawn =
    drawn ∙ ap (λ (v : Vertex). drawn_point area brush v now) at ∙ ap (drawn_point area brush (point_of s k)) so_far
    ∙ sym (each_below-next (λ i. drawn_point area brush (point_of s i)) k m)

pub cost_next : (area : Box2) (s : Ends) (k start now new : ℕ) (p : Vertex) → now ≤ start + points_cost area s k
    → p ≡ point_of s k
    → new ≤ now + cond (is_in area p) 2 0 → new ≤ start + points_cost area s (k + 1)
cost_next area s k start now new p so_far at step =
    let here : ◌≡◌ {A = ℕ} (cond (is_in area p) 2 0) (cond (is_in area (point_of s k)) 2 0) = ap
    (λ (v : Vertex). cond (is_in area v) 2 0) at in
    rw (add-one k) (omega (arith, here, so_far, step))

pub inked_next : (s : Ends) (point_color k : ℕ) (m now new : List ℕ) (p : Vertex)
    → now ≡ colored_points s point_color k m
    → p ≡ point_of s k
    → new ≡ set now (cell_of p).x (cell_of p).y point_color → new ≡ colored_points s point_color (k + 1) m
inked_next s point_color k m now new p so_far at put =
    put ∙ ap (λ (v : Vertex). set now (cell_of v).x (cell_of v).y point_color) at
    ∙ ap (λ cells. set cells (cell_of (point_of s k)).x (cell_of (point_of s k)).y point_color) so_far
    ∙ sym (each_below-next (λ i cells. set cells (cell_of (point_of s i)).x (cell_of (point_of s i)).y point_color) k m)

-- ---- points between two points that are in a box

is_within : (low high z : ℤ) → low ≤ℤ z → z ≤ℤ high → is_between low high z ≡ true
is_within low high z from to = grind (arith, ints)

within_box : (b : Box2) (p : Vertex) → is_between b.x1 b.x2 p.x ≡ true → is_between b.y1 b.y2 p.y ≡ true
    → is_in b p ≡ true
unfolding is_in
within_box b p columns rows = rw (columns, rows) refl

all_within : (b : Box2) (s : Ends) (p : Vertex) → is_in b s.first ≡ true → is_in b s.second ≡ true → IsBetweenEnds s p
    → is_in b p ≡ true
all_within b s p first second amid =
    let a = columns_of b s.first first in
    let c = columns_of b s.second second in
    let d = rows_of b s.first first in
    let e = rows_of b s.second second in
    within_box b p
    (is_within b.x1 b.x2 p.x (omega (arith, ints, clamps, amid.across.0, a.from, c.from))
    (omega (arith, ints, clamps, amid.across.1, a.to, c.to)))
    (is_within b.y1 b.y2 p.y (omega (arith, ints, clamps, amid.down.0, d.from, e.from))
    (omega (arith, ints, clamps, amid.down.1, d.to, e.to)))

-- ---- one halfword

drawn_inked : (area : Box2) (brush : Brush) (p : Vertex) (color point_color : ℕ) (m : List ℕ) → is_in area p ≡ true
    → p.color ≡ color → IsPointColor brush color point_color
    → drawn_point area brush p m ≡ set m (cell_of p).x (cell_of p).y point_color
unfolding drawn_point
drawn_inked area brush p color point_color m inside same is = rw inside
    (ap (λ c. plotted brush (cell_of p) c m) same ∙ is (cell_of p) m)

pub all_inked : (area : Box2) (brush : Brush) (s : Ends) (color point_color : ℕ) → color ≡ s.first.color % 2 ^ 24
    → s.first.color ≡ s.second.color
    → is_in area s.first ≡ true → is_in area s.second ≡ true → IsPointColor brush color point_color
    → ArePointsColored area brush s point_color
all_inked area brush s color point_color is same first second inks k lt =
    let inside = all_within area s (point_of s k) first second (point_of-between s k lt) in
    let shading : (point_of s k).color ≡ color =
    ap (λ c. color_along s.first.color c (steps_of s) k) (sym same) ∙ color-same s.first.color (steps_of s) k
    ∙ sym is in
    record {
      inside = inside;
      drawn = λ m. drawn_inked area brush (point_of s k) color point_color m inside shading inks;
    }

pub some_inked : (area : Box2) (brush : Brush) (s : Ends) (color : ℕ) (found : Option ℕ)
    → ((point_color : ℕ) → IsPointColor brush color point_color → ArePointsColored area brush s point_color)
    → IfSome found (λ point_color. IsPointColor brush color point_color)
    → IfSome found (λ point_color. ArePointsColored area brush s point_color)
some_inked area brush s color None all is = tt
some_inked area brush s color (Some point_color) all is = all point_color is

pub inked_are : (area : Box2) (brush : Brush) (s : Ends) (point_color n : ℕ) (m : List ℕ)
    → ArePointsColored area brush s point_color
    → n ≤ len_of s
    → colored_points s point_color n m ≡ drawn_points area brush s n m
inked_are area brush s point_color n m inked le =
    each_below-same (λ k cells. set cells (cell_of (point_of s k)).x (cell_of (point_of s k)).y point_color)
    (λ k. drawn_point area brush (point_of s k)) n m
    (λ k cells lt. sym ((inked k (omega (arith, lt, le))).drawn cells))

pub inked_cost : (area : Box2) (brush : Brush) (s : Ends) (point_color n : ℕ)
    → ArePointsColored area brush s point_color → n ≤ len_of s
    → n ≤ points_cost area s n
inked_cost area brush s point_color zero inked le = omega arith
inked_cost area brush s point_color (suc n) inked le =
    let so_far = inked_cost area brush s point_color n inked (omega (arith, le)) in
    rw ((inked n (omega (arith, le))).inside) (omega (arith, so_far))

pub in_memory : (height : ℕ) (area : Box2) (p : Vertex) → IsArea height area → is_in area p ≡ true → IsInMemory height p
in_memory height area p is inside =
    let h = columns_of area p inside in
    let v = rows_of area p inside in
    record {
      left = omega (arith, ints, h.from, is.left);
      right = omega (arith, ints, h.to, is.right);
      top = omega (arith, ints, v.from, is.top);
      bottom = omega (arith, ints, v.to, is.bottom);
      reach = omega (arith, ints, v.to, is.bottom, is.reach);
    }

pub undithered_shift : (dither : Bool) (x y : ℕ) → dither ≡ false → dither_of dither x y ≡ pos 0
unfolding dither_of
undithered_shift dither x y off = rw off refl
