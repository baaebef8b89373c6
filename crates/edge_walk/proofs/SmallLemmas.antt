-- The size rule, tested on the bounding box of three vertices.
use Rattle.std.proofs.Common.{◌≡◌, true, ◌≤◌, ◌-ℤ◌, ◌≤ℤ◌, ◌↔◌, ℤ, ℕ, pos, unsigned_abs, arith}
use Rattle.std.proofs.lemmas.Int.{ints, clamps}
use Rattle.std.specs.Int.Signed.{le_z}
use Rattle.px_num.specs.declared.shape.Box2.{Box2}
use Rattle.edge_walk.specs.Extent.{bounding_box, least_of, most_of, IsSmallBox}
use Rattle.edge_walk.specs.Triangle.{Corners, IsSmall}

-- two of three numbers are no further apart than the least and the greatest
near_two : (a b c : ℤ) (k : ℕ) → (most_of a b c -ℤ least_of a b c) ≤ℤ pos k → unsigned_abs (a -ℤ b) ≤ k
near_two a b c k h = omega (arith, ints, clamps, h)

near_three : (a b c : ℤ) (k : ℕ) → (most_of a b c -ℤ least_of a b c) ≤ℤ pos k → unsigned_abs (b -ℤ c) ≤ k
near_three a b c k h = omega (arith, ints, clamps, h)

near_ends : (a b c : ℤ) (k : ℕ) → (most_of a b c -ℤ least_of a b c) ≤ℤ pos k → unsigned_abs (c -ℤ a) ≤ k
near_ends a b c k h = omega (arith, ints, clamps, h)

within : (a b c : ℤ) (k : ℕ) → unsigned_abs (a -ℤ b) ≤ k → unsigned_abs (b -ℤ c) ≤ k → unsigned_abs (c -ℤ a) ≤ k
    → (most_of a b c -ℤ least_of a b c) ≤ℤ pos k
within a b c k ab bc ca = omega (arith, ints, clamps, ab, bc, ca)

at_most : (a b : ℤ) → le_z a b ≡ true → a ≤ℤ b
at_most a b e = grind (arith, ints)

is_at_most : (a b : ℤ) → a ≤ℤ b → le_z a b ≡ true
is_at_most a b e = grind (arith, ints)

-- the second of two tests, if the first one is true
pub small_box : (own : Box2) (across down : ℤ) → across ≡ own.x2 -ℤ own.x1 → down ≡ own.y2 -ℤ own.y1
    → le_z across (pos 1023) ≡ true → (le_z down (pos 511) ≡ true) ↔ IsSmallBox own
small_box own across down x y wide = (
  λ high. record { across = rw (← x) (at_most across (pos 1023) wide); down = rw (← y) (at_most down (pos 511) high) },
  λ small. is_at_most down (pos 511) (rw y small.down),
)

pub small_is : (t : Corners) → IsSmallBox (bounding_box t) ↔ IsSmall t
unfolding bounding_box
small_is t = (
  λ small. record {
    one = record {
      across = near_two t.first.x t.second.x t.third.x 1023 small.across;
      down = near_two t.first.y t.second.y t.third.y 511 small.down;
    };
    two = record {
      across = near_three t.first.x t.second.x t.third.x 1023 small.across;
      down = near_three t.first.y t.second.y t.third.y 511 small.down;
    };
    three = record {
      across = near_ends t.first.x t.second.x t.third.x 1023 small.across;
      down = near_ends t.first.y t.second.y t.third.y 511 small.down;
    };
  },
  λ small. record {
    across = within t.first.x t.second.x t.third.x 1023 small.one.across small.two.across small.three.across;
    down = within t.first.y t.second.y t.third.y 511 small.one.down small.two.down small.three.down;
  },
)
