-- A product with a reciprocal has the quotient in its high bits.
use Rattle.std.proofs.Common.{ℕ, ◌+◌, ◌-◌, ◌*◌, ◌/◌, ◌^◌, ◌≤◌, ◌<◌, ◌≡◌, ◌∙◌, ap, arith}
use Rattle.std.proofs.Math.Nat.{mul-le-mul_left, mul-le-mul_right, lt_of_mul-lt-mul_left}
use Rattle.std.proofs.lemmas.Nat.{div-mul-add}

pub split : (x a : ℕ) → 0 < a → (x / a * a ≤ x) × (x < x / a * a + a)
split x a some = omega arith

pub divided : (x p q : ℕ) → q * p ≤ x → x < q * p + p → x / p ≡ q
divided x p q low high =
    let e : x ≡ q * p + (x - q * p) = omega arith in
    ap (λ z. z / p) e ∙ div-mul-add q p (x - q * p) (omega arith)

module _ (s a p q k : ℕ) (sum_low : q * a ≤ s) (sum_high : s < q * a + a) (low : k * a ≤ p) (high : p < k * a + a) where
  at_least : q * p ≤ s * (k + 1)
  at_least =
      let above : p ≤ k * a + a = omega arith in
      let one = mul-le-mul_left q above in
      let two = mul-le-mul_right (k + 1) sum_low in
      omega (arith, one, two)

  less : s ≤ 255 * a → 255 * a * a < p → s * (k + 1) < q * p + p
  less bound large =
      let step : k * a + a ≤ p + a = omega arith in
      let one = mul-le-mul_left s step in
      let next : s + 1 ≤ q * a + a = omega arith in
      let two = mul-le-mul_right p next in
      let three = mul-le-mul_right a bound in
      lt_of_mul-lt-mul_left a (omega (arith, one, two, three))

pub reciprocal_exact : (s a p : ℕ) → 0 < a → s ≤ 255 * a → 255 * a * a < p → s * (p / a + 1) / p ≡ s / a
reciprocal_exact s a p some bound large =
    let sum = split s a some in
    let whole = split p a some in
    divided (s * (p / a + 1)) p (s / a)
    (at_least s a p (s / a) (p / a) sum.0 sum.1 whole.0 whole.1)
    (less s a p (s / a) (p / a) sum.0 sum.1 whole.0 whole.1 bound large)

-- such a product is small enough
pub reciprocal_bound : (s a p : ℕ) → 0 < a → s ≤ 255 * a → s * (p / a + 1) ≤ 255 * (p + a)
reciprocal_bound s a p some bound =
    let whole = split p a some in
    let one = mul-le-mul_right (p / a + 1) bound in
    omega (arith, one, whole.0)

pub square_bound : (a : ℕ) → a ≤ 1045506 → 255 * a * a < 2 ^ 56
square_bound a h = let one = mul-le-mul_right a h in omega (arith, one)
