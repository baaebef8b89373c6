-- The current value of a slope is the value along the segment.
use Rattle.std.proofs.Common.{ℕ, ◌+◌, ◌*◌, ◌/◌, ◌%◌, ◌^◌, ◌≤◌, ◌<◌, ◌≡◌, ◌≢◌, ℤ, pos, ◌+ℤ◌, ◌-ℤ◌, ◌*ℤ◌, ◌≤ℤ◌, ◌<ℤ◌, max}
use Rattle.std.proofs.Common.{zero, suc, negsuc, w32, SFits, refl, ap, sym, ◌∙◌, arith, unsigned_abs}
use Rattle.std.specs.Int.{int_div_euclid}
use Rattle.std.specs.Int.Signed.{shr_z}
use Rattle.std.proofs.lemmas.Int.{ints, clamps, by_lt_z}
use Rattle.std.proofs.Math.Nat.{mul-le-mul_right}
use Rattle.px_num.specs.Floor.{IsFloor}
use Rattle.px_num.specs.declared.shape.Vertex.{Vertex}
use Rattle.px_num.proofs.FloorLemmas.{floor_is}
use Rattle.px_num.proofs.Ring.{at, add, mul, same}
use Rattle.line_walk.specs.Line.{Ends, along, rise, color_along, point_of, steps_of, IsAmid}
use Rattle.line_walk.specs.Walk.{AreBytes, AreTones, IsByte, IsSlope, tint_of, value_of}
use Rattle.line_walk.specs.declared.slope.Slope.{Slope}
use Rattle.line_walk.specs.declared.tones.Tones.{Tones}
use Rattle.line_walk.proofs.RiseLemmas.{along-some, along-amid, floor_only, mul_mono}

-- ---- from twice the steps' multiple to the value

cancelled : (a c : ℤ) (b : ℕ) → 0 < b → (a *ℤ pos b) ≤ℤ (c *ℤ pos b) → a ≤ℤ c
cancelled a c b some le =
    by_lt_z c a
    (λ less.
    let m = mul_mono b (c +ℤ pos 1) a (omega (arith, ints)) in
    let r = same (mul (add (at c) (at (pos 1))) (at (pos b))) (add (mul (at c) (at (pos b))) (at (pos b)))
    (omega arith) in
    absurd (omega (arith, ints, m, r, le, some)))
    (λ most. most)

less_than : (a c : ℤ) (b : ℕ) → (a *ℤ pos b) <ℤ (c *ℤ pos b) → a <ℤ c
less_than a c b lt =
    by_lt_z a c
    (λ less. less)
    (λ most. let m = mul_mono b c a most in absurd (omega (arith, ints, m, lt)))

module _ (d step r : ℤ) (n k over h : ℕ) (some : 0 < n) (small : 2 * k * over < 2 * h)
    (is : step *ℤ pos n ≡ d *ℤ pos (2 * h) +ℤ pos over)
    (floor : IsFloor r (pos (2 * k) *ℤ d +ℤ pos n) (pos (2 * n))) where
  stretched : (pos h +ℤ pos k *ℤ step) *ℤ pos (2 * n) ≡ (pos (2 * k) *ℤ d +ℤ pos n) *ℤ pos (2 * h) +ℤ pos (2 * k * over)
  stretched =
      same (mul (add (at (pos h)) (mul (at (pos k)) (at step))) (at (pos (2 * n))))
      (add (at (pos (2 * h * n))) (mul (at (pos (2 * k))) (mul (at step) (at (pos n))))) (omega arith)
      ∙ ap (λ (z : ℤ). pos (2 * h * n) +ℤ pos (2 * k) *ℤ z) is
      ∙ same (add (at (pos (2 * h * n)))
      (mul (at (pos (2 * k))) (add (mul (at d) (at (pos (2 * h)))) (at (pos over)))))
      (add (mul (add (mul (at (pos (2 * k))) (at d)) (at (pos n))) (at (pos (2 * h)))) (at (pos (2 * k * over))))
      (omega arith)

  reached_by : (r *ℤ pos (2 * h)) ≤ℤ (pos h +ℤ pos k *ℤ step)
  reached_by =
      let m = mul_mono (2 * h) (r *ℤ pos (2 * n)) (pos (2 * k) *ℤ d +ℤ pos n) floor.reached in
      let turned = same (mul (mul (at r) (at (pos (2 * h)))) (at (pos (2 * n))))
      (mul (mul (at r) (at (pos (2 * n)))) (at (pos (2 * h)))) (omega arith) in
      cancelled (r *ℤ pos (2 * h)) (pos h +ℤ pos k *ℤ step) (2 * n) (omega arith)
      (omega (arith, ints, m, turned, stretched))

  passed_by : (pos h +ℤ pos k *ℤ step) <ℤ ((r +ℤ pos 1) *ℤ pos (2 * h))
  passed_by =
      let m = mul_mono (2 * h) (pos (2 * k) *ℤ d +ℤ pos n +ℤ pos 1) ((r +ℤ pos 1) *ℤ pos (2 * n))
      (let lt = floor.next in omega (arith, ints, lt)) in
      let more = same (mul (add (add (mul (at (pos (2 * k))) (at d)) (at (pos n))) (at (pos 1))) (at (pos (2 * h))))
      (add (mul (add (mul (at (pos (2 * k))) (at d)) (at (pos n))) (at (pos (2 * h)))) (at (pos (2 * h))))
      (omega arith) in
      let turned = same (mul (mul (add (at r) (at (pos 1))) (at (pos (2 * h)))) (at (pos (2 * n))))
      (mul (mul (add (at r) (at (pos 1))) (at (pos (2 * n)))) (at (pos (2 * h)))) (omega arith) in
      less_than (pos h +ℤ pos k *ℤ step) ((r +ℤ pos 1) *ℤ pos (2 * h)) (2 * n)
      (omega (arith, ints, m, more, turned, stretched, small))

  place_floor : (from : ℤ) → IsFloor (from +ℤ r) (from *ℤ pos (2 * h) +ℤ (pos h +ℤ pos k *ℤ step)) (pos (2 * h))
  place_floor from =
      let low = same (mul (add (at from) (at r)) (at (pos (2 * h))))
      (add (mul (at from) (at (pos (2 * h)))) (mul (at r) (at (pos (2 * h))))) (omega arith) in
      let high = same (mul (add (add (at from) (at r)) (at (pos 1))) (at (pos (2 * h))))
      (add (mul (at from) (at (pos (2 * h)))) (mul (add (at r) (at (pos 1))) (at (pos (2 * h))))) (omega arith) in
      record {
        reached = let le = reached_by in omega (arith, ints, low, le);
        next = let lt = passed_by in omega (arith, ints, high, lt);
      }

-- ---- a slope

shr_is : (z : ℤ) (d : ℕ) → shr_z z d ≡ int_div_euclid z (pos d)
shr_is (pos a) d = refl
shr_is (negsuc a) d = refl

-- an error too small to change the value
unseen : (n k over : ℕ) → n ≤ 1023 → k ≤ n → over ≤ n → 2 * k * over < 2 * 2 ^ 20
unseen n k over most le little =
    let a = mul-le-mul_right over le in
    let b = mul-le-mul_right n little in
    let c = mul-le-mul_right n most in
    omega (arith, a, b, c, most)

pub slope_value : (from to : ℤ) (n k : ℕ) (s : Slope) → 0 < n → n ≤ 1023 → k ≤ n → IsSlope from to n k s
    → value_of s ≡ along from to n k
unfolding rise
slope_value from to n k s some most le is =
    let more : n ≢ 0 = λ e. absurd (omega arith) in
    let d : ℤ = to -ℤ from in
    let floor = floor_is (pos (2 * k) *ℤ d +ℤ pos n) (pos (2 * n)) (omega (arith, ints)) in
    let found = place_floor d s.step (rise d n k) n k is.over (2 ^ 20) some
    (unseen n k is.over most le is.little) is.step floor from in
    shr_is s.place (2 ^ 21)
    ∙ ap (λ (z : ℤ). int_div_euclid z (pos (2 ^ 21))) is.place
    ∙ floor_only _ _ (from *ℤ pos (2 ^ 21) +ℤ (pos (2 ^ 20) +ℤ pos k *ℤ s.step)) (2 ^ 21)
    (floor_is _ (pos (2 ^ 21)) (omega (arith, ints))) found
    ∙ sym (along-some from to n k more)

-- also if there is no step
at_first : (from step : ℤ) (k : ℕ) → k ≤ 0 → IsFloor from (from *ℤ pos (2 ^ 21) +ℤ (pos (2 ^ 20) +ℤ pos k *ℤ step))
    (pos (2 ^ 21))
at_first from step k le =
    let none : k ≡ 0 = omega (arith, le) in
    let still : pos k *ℤ step ≡ pos 0 = ap (λ i. pos i *ℤ step) none ∙ omega (arith, ints) in
    record { reached = omega (arith, ints, still); next = omega (arith, ints, still) }

pub slope_at : (from to : ℤ) (n k : ℕ) (s : Slope) → n ≤ 1023 → k ≤ n → IsSlope from to (max 1 n) k s
    → value_of s ≡ along from to n k
slope_at from to zero k s most le is =
    shr_is s.place (2 ^ 21)
    ∙ ap (λ (z : ℤ). int_div_euclid z (pos (2 ^ 21))) is.place
    ∙ floor_only _ _ (from *ℤ pos (2 ^ 21) +ℤ (pos (2 ^ 20) +ℤ pos k *ℤ s.step)) (2 ^ 21)
    (floor_is _ (pos (2 ^ 21)) (omega (arith, ints))) (at_first from s.step k le)
slope_at from to (suc n) k s most le is = let e : max 1 (suc n) ≡ suc n = omega arith in slope_value from to
    (suc n) k s (omega arith) most le (rw e at is)

pub slope_amid : (from to : ℤ) (n k : ℕ) (s : Slope) → n ≤ 1023 → k ≤ n → IsSlope from to (max 1 n) k s
    → IsAmid from to (value_of s)
slope_amid from to n k s most le is = rw (slope_at from to n k s most le is) (along-amid from to n k le)

pub record IsHere (s : Slope) : Type 0 where
  pub low : negsuc 2147483647 ≤ℤ value_of s
  pub high : value_of s ≤ℤ pos 2147483647
  pub place : unsigned_abs s.place < 2 ^ 60

near_by : (place value : ℤ) → IsFloor value place (pos (2 ^ 21)) → negsuc 2147483647 ≤ℤ value → value ≤ℤ pos 2147483647
    → unsigned_abs place < 2 ^ 60
near_by place value floor low high = let a = floor.reached in let b = floor.next in omega (arith, ints, a, b, low, high)

pub slope_here : (from to : ℤ) (n k : ℕ) (s : Slope) → SFits w32 from → SFits w32 to → n ≤ 1023 → k ≤ n
    → IsSlope from to (max 1 n) k s → IsHere s
slope_here from to n k s from_fits to_fits most le is =
    let amid = slope_amid from to n k s most le is in
    let low : negsuc 2147483647 ≤ℤ value_of s = omega (arith, ints, clamps, amid.0, from_fits, to_fits) in
    let high : value_of s ≤ℤ pos 2147483647 = omega (arith, ints, clamps, amid.1, from_fits, to_fits) in
    let floor : IsFloor (value_of s) s.place (pos (2 ^ 21)) = rw (shr_is s.place (2 ^ 21))
    (floor_is s.place (pos (2 ^ 21)) (omega (arith, ints))) in
    record { low = low; high = high; place = near_by s.place (value_of s) floor low high }

-- ---- a step

pub step_small : (q a : ℤ) (n : ℕ) → 0 < n → IsFloor q a (pos n) → a <ℤ pos 2147483647 → q <ℤ pos 2147483647
step_small q a n some floor less =
    by_lt_z q (pos 2147483647)
    (λ below. below)
    (λ beyond.
    let m = mul_mono n (pos 2147483647) q beyond in
    let reached = floor.reached in
    absurd (omega (arith, ints, m, reached, less, some)))

pub slope_first : (from to q : ℤ) (n : ℕ) → 0 < n → IsFloor q ((to -ℤ from) *ℤ pos (2 ^ 21)) (pos n)
    → IsSlope from to n 0 (record { place = from *ℤ pos (2 ^ 21) +ℤ pos (2 ^ 20); step = q +ℤ pos 1 })
slope_first from to q n some floor =
    let more = same (mul (add (at q) (at (pos 1))) (at (pos n))) (add (mul (at q) (at (pos n))) (at (pos n)))
    (omega arith) in
    let reached = floor.reached in
    let next = floor.next in
    record {
      over = unsigned_abs ((q +ℤ pos 1) *ℤ pos n -ℤ (to -ℤ from) *ℤ pos (2 ^ 21));
      little = omega (arith, ints, more, reached, next);
      step = omega (arith, ints, more, reached, next);
      place = omega (arith, ints);
    }

pub slope_on : (from to : ℤ) (n k : ℕ) (s : Slope) → IsSlope from to n k s
    → IsSlope from to n (k + 1) (record { place = s.place +ℤ s.step; step = s.step })
slope_on from to n k s is =
    let more = same (mul (at (pos (k + 1))) (at s.step)) (add (mul (at (pos k)) (at s.step)) (at s.step))
    (omega arith) in
    let place = is.place in
    record { over = is.over; little = is.little; step = is.step; place = omega (arith, ints, place, more) }

-- the steps of a segment's slopes, at least 1
pub one_cut : (from to : ℤ) (n k cuts : ℕ) (s : Slope) → cuts ≡ max n 1 → IsSlope from to cuts k s
    → IsSlope from to (max 1 n) k s
one_cut from to n k cuts s e is = let turned : cuts ≡ max 1 n = omega (arith, e) in rw turned at is

pub point_is : (s : Ends) (k n : ℕ) (x y : ℤ) (color : ℕ) → n ≡ steps_of s → x ≡ along s.first.x s.second.x n k
    → y ≡ along s.first.y s.second.y n k
    → color ≡ color_along s.first.color s.second.color n k
    → ◌≡◌ {A = Vertex} (record { x = x; y = y; color = color; u = 0; v = 0 }) (point_of s k)
point_is s k n x y color count of_x of_y of_color = rw (of_x, of_y, of_color, count) refl

-- ---- the channels of a colour

tone_within : (v w : ℕ) (z : ℤ) → v < 256 → w < 256 → IsAmid (pos v) (pos w) z → (pos 0 ≤ℤ z) × (z ≤ℤ pos 255)
tone_within v w z lt lu amid = (omega (arith, ints, clamps, amid.0), omega (arith, ints, clamps, amid.1))

tone_here : (v w n k : ℕ) (s : Slope) → v < 256 → w < 256 → n ≤ 1023 → k ≤ n → IsSlope (pos v) (pos w) (max 1 n) k s
    → IsByte s
tone_here v w n k s lt lu most le is =
    let within = tone_within v w (value_of s) lt lu (slope_amid (pos v) (pos w) n k s most le is) in
    let here = slope_here (pos v) (pos w) n k s (omega (arith, ints)) (omega (arith, ints)) most le is in
    record { low = within.0; high = within.1; place = here.place }

pub tones_here : (from to n k : ℕ) (t : Tones) → n ≤ 1023 → k ≤ n → AreTones from to (max 1 n) k t → AreBytes t
tones_here from to n k t most le are = record {
  red = tone_here (from % 256) (to % 256) n k t.red (omega arith) (omega arith) most le are.red;
  green = tone_here (from / 2 ^ 8 % 256) (to / 2 ^ 8 % 256) n k t.green (omega arith) (omega arith) most le are.green;
  blue = tone_here (from / 2 ^ 16 % 256) (to / 2 ^ 16 % 256) n k t.blue (omega arith) (omega arith) most le are.blue;
}

pub tint_is : (from to n k : ℕ) (t : Tones) → n ≤ 1023 → k ≤ n → AreTones from to (max 1 n) k t
    → tint_of t ≡ color_along from to n k
tint_is from to n k t most le are =
    rw (
      slope_at (pos (from % 256)) (pos (to % 256)) n k t.red most le are.red,
      slope_at (pos (from / 2 ^ 8 % 256)) (pos (to / 2 ^ 8 % 256)) n k t.green most le are.green,
      slope_at (pos (from / 2 ^ 16 % 256)) (pos (to / 2 ^ 16 % 256)) n k t.blue most le are.blue,
    ) refl

pub tones_cut : (from to n k cuts : ℕ) (t : Tones) → cuts ≡ max n 1 → AreTones from to cuts k t
    → AreTones from to (max 1 n) k t
tones_cut from to n k cuts t e are = let turned : cuts ≡ max 1 n = omega (arith, e) in rw turned at are
