-- Boxes that are clipped to the drawing area.
use Rattle.std.proofs.Common.{◌≡◌, ℕ, ℤ, ◌≤ℤ◌, int_lt, Bool, true, false, cond, ◌||◌, Option, None, Some, IfSome, refl}
use Rattle.std.proofs.Common.{arith}
use Rattle.std.proofs.lemmas.Int.{ints, clamps}
use Rattle.px_num.specs.declared.shape.Box2.{Box2}
use Rattle.prim_draw.specs.Boxes.{some_box, overlap}
use Rattle.span_lanes.specs.Figures.Boxes.{clip_rect_of, IsOnScreen, LiesInBox}
use Rattle.prim_draw.specs.Rectangles.{cells_box, IsExtent, IsPartOf}
use Rattle.prim_draw.specs.declared.rectangles.Extent.{Extent}
use Rattle.gp1_status.specs.Drawing.{IsArea}

not_less : (a b : ℤ) → false ≡ int_lt b a → a ≤ℤ b
not_less a b e = grind (arith, ints)

some_on : (height : ℕ) (b : Box2) (across down : Bool) → across ≡ int_lt b.x2 b.x1 → down ≡ int_lt b.y2 b.y1
    → IsArea height b
    → IfSome (cond (across || down) None (Some b)) (IsOnScreen height)
some_on height b true down e f area = tt
some_on height b false true e f area = tt
some_on height b false false e f area = record {
  left = area.left;
  across = not_less b.x1 b.x2 e;
  right = area.right;
  top = area.top;
  down = not_less b.y1 b.y2 f;
  bottom = area.bottom;
}

overlap_in : (height : ℕ) (b area : Box2) → IsArea height area → IsArea height (overlap b area)
unfolding overlap
overlap_in height b area h = record {
  left = omega (arith, ints, clamps, h.left);
  right = omega (arith, ints, clamps, h.right);
  top = omega (arith, ints, clamps, h.top);
  bottom = omega (arith, ints, clamps, h.bottom);
  reach = h.reach;
}

pub on_screen : (height : ℕ) (b area : Box2) → IsArea height area
    → IfSome (some_box (overlap b area)) (IsOnScreen height)
unfolding some_box
on_screen height b area h = some_on height (overlap b area) _ _ refl refl (overlap_in height b area h)

some_in : (outer b : Box2) (across down : Bool) → LiesInBox outer b
    → IfSome (cond (across || down) None (Some b)) (LiesInBox outer)
some_in outer b true q h = tt
some_in outer b false true h = tt
some_in outer b false false h = h

overlap_lies : (b area : Box2) → LiesInBox b (overlap b area)
unfolding overlap
overlap_lies b area = record {
  left = omega (arith, ints, clamps);
  top = omega (arith, ints, clamps);
  right = omega (arith, ints, clamps);
  bottom = omega (arith, ints, clamps);
}

pub lies_in : (b area : Box2) → IfSome (some_box (overlap b area)) (LiesInBox b)
unfolding some_box
lies_in b area =
    let c = overlap b area in
    some_in b c (int_lt c.x2 c.x1) (int_lt c.y2 c.y1) (overlap_lies b area)

-- two facts about an optional value, combined
pub if_both : {A : Type 0} {P Q R : A → Type 0} (value : Option A) → ((a : A) → P a → Q a → R a) → IfSome value P
    → IfSome value Q → IfSome value R
if_both None f p q = tt
if_both (Some a) f p q = f a p q

-- a part of a rectangle, as a clip rectangle
pub part_of : (e : Extent) (height : ℕ) (b : Box2) → IsExtent e → IsOnScreen height b → LiesInBox (cells_box e) b
    → IsPartOf e (clip_rect_of b)
unfolding clip_rect_of
part_of e height b is on lies = record {
  left = omega (arith, ints, on.left, lies.left);
  top = omega (arith, ints, on.top, lies.top);
  right = omega (arith, ints, on.left, on.across, lies.right, is.wide);
  bottom = omega (arith, ints, on.top, on.down, lies.bottom, is.high);
}
