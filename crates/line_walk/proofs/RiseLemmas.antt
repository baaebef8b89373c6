-- A step along a segment stays between its ends.
use Rattle.std.proofs.Common.{ℕ, suc, ◌+◌, ◌-◌, ◌*◌, ◌/◌, ◌%◌, ◌^◌, ◌≤◌, ◌<◌, ◌≡◌, ◌≢◌, ℤ, pos, negsuc, ◌+ℤ◌, ◌-ℤ◌}
use Rattle.std.proofs.Common.{◌*ℤ◌, ◌≤ℤ◌, ◌<ℤ◌, Bool, true, false, cond, eqb, refl, ap, sym, arith, unsigned_abs}
use Rattle.std.specs.Int.{int_min, int_max}
use Rattle.std.proofs.lemmas.Int.{ints, clamps, by_lt_z}
use Rattle.std.proofs.lemmas.Bool.Decides.{nat_tests}
use Rattle.std.proofs.Math.Nat.{mul-le-mul_right}
use Rattle.std.proofs.lemmas.Nat.{div-mul-add}
use borrow.Author.Differences.{up, down}
use Rattle.px_num.specs.Floor.{IsFloor}
use Rattle.px_num.proofs.FloorLemmas.{floor_is}
use Rattle.px_num.proofs.Ring.{at, add, sub, mul, same, at_most, below}
use Rattle.line_walk.specs.Line.{Ends, rise, along, channel_along, color_along, steps_of, len_of, point_of, IsAmid}
use Rattle.line_walk.specs.Line.{IsBetweenEnds}

le_ups : (x y : ℤ) → x ≤ℤ y → up x + down y ≤ up y + down x
le_ups x y h = omega (arith, ints)

pub mul_mono : (d : ℕ) (x y : ℤ) → x ≤ℤ y → (x *ℤ pos d) ≤ℤ (y *ℤ pos d)
mul_mono d x y le = omega (arith, ints, mul-le-mul_right d (le_ups x y le))

mul_mono_left : (j k : ℕ) (d : ℤ) → j ≤ k → pos 0 ≤ℤ d → (pos j *ℤ d) ≤ℤ (pos k *ℤ d)
mul_mono_left j k (pos d) le h = omega (arith, ints, mul-le-mul_right d le)
mul_mono_left j k (negsuc d) le h = absurd (omega (arith, ints))

mul_mono_down : (j k : ℕ) (d : ℤ) → j ≤ k → d <ℤ pos 0 → (pos k *ℤ d) ≤ℤ (pos j *ℤ d)
mul_mono_down j k (pos d) le h = absurd (omega (arith, ints))
mul_mono_down j k (negsuc d) le h = omega (arith, ints, mul-le-mul_right (suc d) le)

module _ (q d : ℤ) (n k : ℕ) (some : 0 < n) (within : k ≤ n)
    (floor : IsFloor q (pos (2 * k) *ℤ d +ℤ pos n) (pos (2 * n))) where
  quotient_low : int_min (pos 0) d ≤ℤ q
  quotient_low = by_lt_z d (pos 0)
      (λ falls. by_lt_z q d
      (λ beyond. let m = mul_mono (2 * n) (q +ℤ pos 1) d (omega (arith, ints)) in let e = mul_mono_down (2 * k)
      (2 * n) d (omega arith) falls in absurd (omega (arith, ints, floor.next)))
      (λ le. omega (arith, ints, clamps)))
      (λ grows. by_lt_z q (pos 0)
      (λ beyond. let m = mul_mono (2 * n) (q +ℤ pos 1) (pos 0) (omega (arith, ints)) in let e = mul_mono_left 0
      (2 * k) d (omega arith) grows in absurd (omega (arith, ints, floor.next)))
      (λ le. omega (arith, ints, clamps)))

  quotient_high : q ≤ℤ int_max (pos 0) d
  quotient_high = by_lt_z d (pos 0)
      (λ falls. by_lt_z (pos 0) q
      (λ beyond. let m = mul_mono (2 * n) (pos 1) q (omega (arith, ints)) in let e = mul_mono_down 0 (2 * k) d
      (omega arith) falls in absurd (omega (arith, ints, floor.reached)))
      (λ le. omega (arith, ints, clamps)))
      (λ grows. by_lt_z d q
      (λ beyond. let m = mul_mono (2 * n) (d +ℤ pos 1) q (omega (arith, ints)) in let e = mul_mono_left (2 * k)
      (2 * n) d (omega arith) grows in let r = same (mul (add (at d) (at (pos 1))) (at (pos (2 * n))))
      (add (mul (at (pos (2 * n))) (at d)) (at (pos (2 * n)))) (omega arith) in
      absurd (omega (arith, ints, floor.reached)))
      (λ le. omega (arith, ints, clamps)))

pub rise-low : (d : ℤ) (n k : ℕ) → 0 < n → k ≤ n → int_min (pos 0) d ≤ℤ rise d n k
unfolding rise
rise-low d n k some within = quotient_low _ d n k some within (floor_is _ (pos (2 * n)) (omega (arith, ints)))

pub rise-high : (d : ℤ) (n k : ℕ) → 0 < n → k ≤ n → rise d n k ≤ℤ int_max (pos 0) d
unfolding rise
rise-high d n k some within = quotient_high _ d n k some within (floor_is _ (pos (2 * n)) (omega (arith, ints)))

pub sum-amid : (from to : ℤ) (n k : ℕ) → 0 < n → k ≤ n → IsAmid from to (from +ℤ rise (to -ℤ from) n k)
sum-amid from to n k some within = (
  omega (arith, ints, clamps, rise-low (to -ℤ from) n k some within),
  omega (arith, ints, clamps, rise-high (to -ℤ from) n k some within),
)

-- if there is at least one step
pub along-some : (from to : ℤ) (n k : ℕ) → n ≢ 0 → along from to n k ≡ (from +ℤ rise (to -ℤ from) n k)
along-some from to n k some = let e : eqb n 0 ≡ false = grind (arith, nat_tests) in
    ap (λ t. cond t from (from +ℤ rise (to -ℤ from) n k)) e

by_steps : (t : Bool) (from to : ℤ) (n k : ℕ) → t ≡ eqb n 0 → k ≤ n
    → IsAmid from to (cond t from (from +ℤ rise (to -ℤ from) n k))
by_steps true from to n k e within = (omega (arith, ints, clamps), omega (arith, ints, clamps))
by_steps false from to n k e within = let some : 0 < n = grind (arith, nat_tests) in sum-amid from to n k some within

-- a value along a segment is between those at its ends
pub along-amid : (from to : ℤ) (n k : ℕ) → k ≤ n → IsAmid from to (along from to n k)
along-amid from to n k within = by_steps (eqb n 0) from to n k refl within

-- each point is in the box of the ends
pub point_of-between : (s : Ends) (k : ℕ) → k < len_of s → IsBetweenEnds s (point_of s k)
point_of-between s k within = record {
  across = along-amid s.first.x s.second.x (steps_of s) k (omega arith);
  down = along-amid s.first.y s.second.y (steps_of s) k (omega arith);
}

-- ---- the change as a quotient of natural numbers

pub floor_only : (p q a : ℤ) (b : ℕ) → IsFloor p a (pos b) → IsFloor q a (pos b) → p ≡ q
floor_only p q a b f g =
    by_lt_z p q
    (λ less. let m = mul_mono b (p +ℤ pos 1) q (omega (arith, ints)) in absurd (omega (arith, ints, f.next, g.reached)))
    (λ le. by_lt_z q p
    (λ less. let m = mul_mono b (q +ℤ pos 1) p (omega (arith, ints)) in absurd (omega (arith, ints, g.next, f.reached)))
    (λ ge. omega (arith, ints)))

division : (a b q : ℕ) → 0 < b → q ≡ a / b → (q * b ≤ a) × (a < q * b + b)
division a b q some e = rw e (omega arith)

up_floor : (d n k q : ℕ) → 0 < n → q ≡ (2 * k * d + n) / (2 * n)
    → IsFloor (pos q) (pos (2 * k) *ℤ pos d +ℤ pos n) (pos (2 * n))
up_floor d n k q some e =
    let parts = division (2 * k * d + n) (2 * n) q (omega arith) e in
    record {
      reached = at_most (mul (at (pos q)) (at (pos (2 * n)))) (add (mul (at (pos (2 * k))) (at (pos d))) (at (pos n)))
          (omega (arith, parts));
      next = below (add (mul (at (pos (2 * k))) (at (pos d))) (at (pos n)))
          (mul (add (at (pos q)) (at (pos 1))) (at (pos (2 * n)))) (omega (arith, parts));
    }

down_floor : (e n k q : ℕ) → 0 < n → q ≡ (2 * k * suc e + (n - 1)) / (2 * n)
    → IsFloor (pos 0 -ℤ pos q) (pos (2 * k) *ℤ negsuc e +ℤ pos n) (pos (2 * n))
down_floor e n k q some is =
    let parts = division (2 * k * suc e + (n - 1)) (2 * n) q (omega arith) is in
    record {
      reached = at_most (mul (sub (at (pos 0)) (at (pos q))) (at (pos (2 * n))))
          (add (mul (at (pos (2 * k))) (at (negsuc e))) (at (pos n))) (omega (arith, parts));
      next = below (add (mul (at (pos (2 * k))) (at (negsuc e))) (at (pos n)))
          (mul (add (sub (at (pos 0)) (at (pos q))) (at (pos 1))) (at (pos (2 * n)))) (omega (arith, parts));
    }

pub rise-up : (d : ℤ) (n k q : ℕ) → 0 < n → pos 0 ≤ℤ d → q ≡ (2 * k * unsigned_abs d + n) / (2 * n) → pos q ≡ rise d n k
unfolding rise
rise-up (pos d) n k q some h e = floor_only _ _ _ (2 * n) (up_floor d n k q some e)
    (floor_is _ (pos (2 * n)) (omega (arith, ints)))
rise-up (negsuc d) n k q some h e = absurd (omega (arith, ints))

pub rise-down : (d : ℤ) (n k q : ℕ) → 0 < n → d <ℤ pos 0 → q ≡ (2 * k * unsigned_abs d + (n - 1)) / (2 * n)
    → (pos 0 -ℤ pos q) ≡ rise d n k
unfolding rise
rise-down (pos d) n k q some h e = absurd (omega (arith, ints))
rise-down (negsuc d) n k q some h e = floor_only _ _ _ (2 * n) (down_floor d n k q some e)
    (floor_is _ (pos (2 * n)) (omega (arith, ints)))

-- ---- a value that does not change

rise-none : (n k : ℕ) → 0 < n → pos 0 ≡ rise (pos 0) n k
rise-none n k some =
    let is : 2 * k * 0 + n ≡ 0 * (2 * n) + n = omega arith in
    let none : 0 ≡ (2 * k * 0 + n) / (2 * n) = sym (rw is (div-mul-add 0 (2 * n) n (omega arith))) in
    rise-up (pos 0) n k 0 some (omega (arith, ints)) none

by_none : (t : Bool) (v n k : ℕ) → t ≡ eqb n 0 → unsigned_abs (cond t (pos v) (pos v +ℤ rise (pos v -ℤ pos v) n k)) ≡ v
by_none true v n k e = refl
by_none false v n k e =
    let some : 0 < n = grind (arith, nat_tests) in
    let stays : (pos v -ℤ pos v) ≡ pos 0 = omega (arith, ints) in
    let none : rise (pos v -ℤ pos v) n k ≡ pos 0 = rw stays (sym (rise-none n k some)) in
    rw none (omega (arith, ints))

channel-same : (v n k : ℕ) → channel_along v v n k ≡ v
channel-same v n k = by_none (eqb n 0) v n k refl

pub color-same : (color n k : ℕ) → color_along color color n k ≡ color % 2 ^ 24
color-same color n k =
    rw (
      channel-same (color % 256) n k,
      channel-same (color / 2 ^ 8 % 256) n k,
      channel-same
          (color / 2 ^ 16 % 256) n k,
    ) (omega arith)
