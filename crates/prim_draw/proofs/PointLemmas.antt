-- Points in a box.
use Rattle.std.proofs.Common.{◌≡◌, ℕ, ℤ, ◌≤ℤ◌, List, Bool, true, false, ◌&&◌, refl, arith}
use Rattle.std.specs.Int.Signed.{le_z}
use Rattle.std.proofs.lemmas.Int.{ints}
use Rattle.px_num.specs.declared.shape.Box2.{Box2}
use Rattle.px_num.specs.declared.shape.Vertex.{Vertex}
use Rattle.span_lanes.specs.declared.span.Brush.{Brush}
use Rattle.span_lanes.specs.declared.span.Paint.TheVariants.{Flat}
use Rattle.span_lanes.specs.Cost.{span_cost}
use Rattle.span_lanes.specs.Hazard.Guard.{has_hazard}
use Rattle.span_lanes.specs.Shade.{flat_pixel, blended_if}
use Rattle.vram_store.specs.Plot.{forced, is_kept, is_testing, plot}
use Rattle.vram_store.specs.Vram.{set}
use Rattle.prim_draw.specs.Lines.{is_between, is_in}

two : (a b : Bool) → (a && b) ≡ true → (a ≡ true) × (b ≡ true)
two true b e = (refl, e)
two false b e = absurd cc

at_most : (a b : ℤ) → le_z a b ≡ true → a ≤ℤ b
at_most a b e = grind (arith, ints)

pub record LiesBetween (low high z : ℤ) : Type 0 where
  pub from : low ≤ℤ z
  pub to : z ≤ℤ high

between : (low high z : ℤ) → is_between low high z ≡ true → LiesBetween low high z
between low high z e = let h = two (le_z low z) (le_z z high) e in
    record { from = at_most low z h.0; to = at_most z high h.1 }

pub columns_of : (b : Box2) (p : Vertex) → is_in b p ≡ true → LiesBetween b.x1 b.x2 p.x
unfolding is_in
columns_of b p e = between b.x1 b.x2 p.x (two (is_between b.x1 b.x2 p.x) (is_between b.y1 b.y2 p.y) e).0

pub rows_of : (b : Box2) (p : Vertex) → is_in b p ≡ true → LiesBetween b.y1 b.y2 p.y
unfolding is_in
rows_of b p e = between b.y1 b.y2 p.y (two (is_between b.x1 b.x2 p.x) (is_between b.y1 b.y2 p.y) e).1

-- the cost of one cell of one colour
pub point_cost : (x y color : ℕ) (brush : Brush)
    → span_cost (record { x = x; y = y; n = 1; paint = Flat color; brush = brush }) ≡ 2
unfolding span_cost has_hazard
point_cost x y color brush = refl

-- ---- cells that are not read

pub opaque_pixel : (brush : Brush) (color : ℕ) (shift : ℤ) (back : ℕ) → brush.semi ≡ false
    → flat_pixel brush color shift 0 ≡ flat_pixel brush color shift back
unfolding flat_pixel blended_if
opaque_pixel brush color shift back opaque = rw opaque refl

pub plot_untested : (m : List ℕ) (mask x y color : ℕ) → is_testing mask ≡ false → set m x y (forced mask color)
    ≡ plot m mask x y color
unfolding plot is_kept
plot_untested m mask x y color untested = rw untested refl
