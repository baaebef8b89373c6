-- Sums times the reciprocal that grow from cell to cell, modulo 2^64.
use Rattle.std.proofs.Common.{ℕ, ◌+◌, ◌-◌, ◌*◌, ◌/◌, ◌%◌, ◌^◌, ◌≤◌, ◌<◌, ◌≡◌, ℤ, pos, ◌+ℤ◌, ◌*ℤ◌, ◌≤ℤ◌, int_lt}
use Rattle.std.proofs.Common.{unsigned_abs, Bool, true, false, cond, zero, suc, refl, sym, ap, ◌∙◌, arith}
use Rattle.std.proofs.Math.Nat.{add-mul-mod_self_right, mod_self, mod-eq_of_lt, mul-le-mul_left, mul-le-mul_right}
use Rattle.std.proofs.Math.Nat.{lt_of_mul-lt-mul_left}
use Rattle.std.proofs.lemmas.Int.{ints}
use borrow.Author.Differences.{up, down}
use Rattle.edge_walk.specs.Line.{wrapped, scaled, line_value}
use Rattle.edge_walk.proofs.DivisorLemmas.{reciprocal_bound, split, divided}
use Rattle.edge_walk.proofs.NearLemmas.{IsNear, short_sum, near}

-- u equals p plus a multiple of w, and p is below w
same_mod : (u p k w : ℕ) → p < w → u ≡ p + k * w → u % w ≡ p
same_mod u p k w lt e = ap (λ z. z % w) e ∙ add-mul-mod_self_right p k w ∙ mod-eq_of_lt lt

module _ (w start r i n s q rest : ℕ) (whole : n * r ≡ q * w + rest) (small : s * r < w) where
  rising : s ≡ start + n * i → (start * r + rest * i) % w ≡ s * r
  rising e =
      let all : start * r + rest * i + q * i * w ≡ s * r = omega (arith, ap (λ z. z * i) whole, ap (λ z. z * r) e) in
      sym (add-mul-mod_self_right (start * r + rest * i) (q * i) w) ∙ ap (λ z. z % w) all ∙ mod-eq_of_lt small

  falling : s + n * i ≡ start → (t up : ℕ) → up + rest ≡ t * w → (start * r + up * i) % w ≡ s * r
  falling e t up turn = same_mod (start * r + up * i) (s * r) (q * i + t * i) w small
      (omega (arith, ap (λ z. z * i) whole, ap (λ z. z * i) turn, ap (λ z. z * r) e))

-- a number and its negation modulo w add up to a multiple of w
turned : (rest w : ℕ) → rest < w → (t : ℕ) × ((w - rest) % w + rest ≡ t * w)
turned zero w lt =
    let whole : w - 0 ≡ w = omega arith in
    (0, rw (whole, mod_self w) (omega arith))
turned (suc rest) w lt =
    (1, (let less : w - suc rest < w = omega arith in let same = mod-eq_of_lt less in omega (arith, same, lt)))

-- the sum i cells to the right, computed from the stored steps
module _ (w start r i n s : ℕ) (some : 0 < w) (small : s * r < w) where
  halves : n * r ≡ n * r / w * w + n * r % w
  halves = omega (arith, some)

  low : n * r % w < w
  low = omega (arith, some)

  further : (falls : Bool) (turn : ℕ → ℕ) → ((size : ℕ) → turn size ≡ cond falls ((w - size) % w) size)
      → (falls ≡ true → s + n * i ≡ start) → (falls ≡ false → s ≡ start + n * i)
      → (start * r + turn (n * r % w) * i) % w ≡ s * r
  further true turn is down up =
      let t = turned (n * r % w) w low in
      rw (is (n * r % w))
      (falling w start r i n s (n * r / w) (n * r % w) halves small (down refl) t.0 ((w - n * r % w) % w) t.1)
  further false turn is down up = rw (is (n * r % w))
      (rising w start r i n s (n * r / w) (n * r % w) halves small (up refl))

goes_down : (start i s : ℕ) (step : ℤ) → pos s ≡ (pos start +ℤ step *ℤ pos i) → int_lt step (pos 0) ≡ true
    → s + unsigned_abs step * i ≡ start
goes_down start i s step e falls =
    let part : s + down step * i ≡ start + up step * i = omega (arith, ints) in
    let size : down step ≡ up step + unsigned_abs step = omega (arith, ints, falls) in
    omega (arith, part, ap (λ z. z * i) size)

goes_up : (start i s : ℕ) (step : ℤ) → pos s ≡ (pos start +ℤ step *ℤ pos i) → int_lt step (pos 0) ≡ false
    → s ≡ start + unsigned_abs step * i
goes_up start i s step e rises =
    let part : s + down step * i ≡ start + up step * i = omega (arith, ints) in
    let size : up step ≡ down step + unsigned_abs step = omega (arith, ints, rises) in
    omega (arith, part, ap (λ z. z * i) size)

-- ---- in 32 bits

module _ (s a r q sum : ℕ) (low : q * a ≤ s) (high : s < q * a + a) (over : 2 ^ 56 ≤ r * a)
    (under : r * a ≤ 2 ^ 56 + a) (near_sum : IsNear sum (s * r)) where
  not_less : q * 2 ^ 24 ≤ sum
  not_less =
      let one = mul-le-mul_right r low in
      let two = mul-le-mul_left q over in
      omega (arith, one, two, near_sum.above)

  not_more : a ≤ 1045506 → s ≤ 255 * a → sum < q * 2 ^ 24 + 2 ^ 24
  not_more most bound =
      let one = mul-le-mul_left s under in
      let two = mul-le-mul_right a bound in
      let three = mul-le-mul_right a most in
      let next : s + 1 ≤ q * a + a = omega (arith, high) in
      let four = mul-le-mul_right (2 ^ 56) next in
      let five = mul-le-mul_left a near_sum.below in
      let less : 2 ^ 32 * sum < q * 2 ^ 56 + 2 ^ 56 = lt_of_mul-lt-mul_left a
      (omega (arith, one, two, three, four, five, most)) in
      omega (arith, less)

near_exact : (s a r sum : ℕ) → 0 < a → a ≤ 1045506 → s ≤ 255 * a → r ≡ 2 ^ 56 / a + 1 → IsNear sum (s * r)
    → sum / 2 ^ 24 ≡ s / a
near_exact s a r sum some most bound r_is near_sum =
    let whole = split (2 ^ 56) a some in
    let parts = split s a some in
    let product : r * a ≡ 2 ^ 56 / a * a + a = omega (arith, ap (λ z. z * a) r_is) in
    let over : 2 ^ 56 ≤ r * a = omega (arith, product, whole.1) in
    let under : r * a ≤ 2 ^ 56 + a = omega (arith, product, whole.0) in
    divided sum (2 ^ 24) (s / a)
    (not_less s a r (s / a) sum parts.0 parts.1 over under near_sum)
    (not_more s a r (s / a) sum parts.0 parts.1 over under near_sum most bound)

-- the attribute at + j cells to the right
pub line_is : (start at j area r : ℕ) (step : ℤ) → j < 16 → 0 < area → area ≤ 1045506 → r ≡ 2 ^ 56 / area + 1
    → pos 0 ≤ℤ (pos start +ℤ step *ℤ pos (at + j)) → unsigned_abs (pos start +ℤ step *ℤ pos (at + j)) ≤ 255 * area
    → line_value (record { first = start * r; step = scaled step r }) at j
    ≡ unsigned_abs (pos start +ℤ step *ℤ pos (at + j)) / area
unfolding scaled line_value
line_is start at j area r step lt some most r_is low high =
    let s : ℕ = unsigned_abs (pos start +ℤ step *ℤ pos (at + j)) in
    let by : ℕ = scaled step r in
    let meant : pos s ≡ (pos start +ℤ step *ℤ pos (at + j)) = omega (arith, ints, low) in
    let bound = rw (← r_is) at (reciprocal_bound s area (2 ^ 56) some high) in
    let small : s * r < 2 ^ 64 = omega (arith, bound, most) in
    let room : s * r + 12 * 2 ^ 32 < 2 ^ 64 = omega (arith, bound, most) in
    let sum = further (2 ^ 64) start r (at + j) (unsigned_abs step) s (omega arith) small (int_lt step (pos 0))
    (wrapped (int_lt step (pos 0))) (λ size. refl)
    (goes_down start (at + j) s step meant) (goes_up start (at + j) s step meant) in
    let there : (start * r + by * at + by * j) % 2 ^ 64 ≡ s * r = ap (λ z. z % 2 ^ 64) (omega arith) ∙ sum in
    let ninth : by * (at + 8) ≡ by * at + by * 8 = omega arith in
    rw ninth (near_exact s area r (short_sum j (start * r) (by * at) by) some most high r_is
    (near j (start * r) (by * at) by (s * r) lt there room))
