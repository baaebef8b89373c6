-- Numbers of a plane, modulo 2^64.
use Rattle.std.proofs.Common.{ℕ, ◌+◌, ◌-◌, ◌*◌, ◌/◌, ◌%◌, ◌^◌, ◌<◌, ◌≡◌, ℤ, pos, int_lt}
use Rattle.std.proofs.Common.{unsigned_abs, Bool, true, false, refl, sym, ap, ◌∙◌, arith}
use Rattle.std.proofs.Math.Nat.{add-mul-mod_self_right, mod-eq_of_lt}
use Rattle.std.proofs.lemmas.Int.{ints}
use borrow.Author.Differences.{up, down}
use Rattle.edge_walk.specs.Line.{wrapped, scaled}

-- u equals the product of a step and r modulo m
pub record IsScaled (u : ℕ) (step : ℤ) (r m : ℕ) : Type 0 where
  pub less : ℕ
  pub more : ℕ
  pub is : u + down step * r + less * m ≡ up step * r + more * m

scaled_by : (falls : Bool) (step : ℤ) (r : ℕ) → falls ≡ int_lt step (pos 0)
    → IsScaled (wrapped falls (unsigned_abs step * r % 2 ^ 64)) step r (2 ^ 64)
scaled_by true step r e =
    let size : down step ≡ up step + unsigned_abs step = omega (arith, ints, e) in
    let product = ap (λ z. z * r) size in
    record {
      less = 0;
      more = (unsigned_abs step * r % 2 ^ 64 + (2 ^ 64 - unsigned_abs step * r % 2 ^ 64) % 2 ^ 64) / 2
          ^ 64 + unsigned_abs step * r / 2 ^ 64;
      is = omega (arith, product);
    }
scaled_by false step r e =
    let size : up step ≡ down step + unsigned_abs step = omega (arith, ints, e) in
    let product = ap (λ z. z * r) size in
    record { less = unsigned_abs step * r / 2 ^ 64; more = 0; is = omega (arith, product) }

pub scaled_is : (step : ℤ) (r : ℕ) → IsScaled (scaled step r) step r (2 ^ 64)
unfolding scaled
scaled_is step r = scaled_by (int_lt step (pos 0)) step r refl

-- a step times r, from the step modulo 2^64
pub wrapped_is : (falls : Bool) (step size r : ℕ)
    → (falls ≡ true → step + size ≡ 2 ^ 64) → (falls ≡ false → step ≡ size)
    → step * r % 2 ^ 64 ≡ wrapped falls (size * r % 2 ^ 64)
wrapped_is true step size r down_ up_ = let product = ap (λ z. z * r) (down_ refl) in omega (arith, product)
wrapped_is false step size r down_ up_ = ap (λ z. z * r % 2 ^ 64) (up_ refl)

-- two numbers that differ by multiples of m, one of them below m
same_rest : (u s k l m : ℕ) → s < m → u + k * m ≡ s + l * m → u % m ≡ s
same_rest u s k l m lt e = sym (add-mul-mod_self_right u k m) ∙ ap (λ z. z % m) e ∙ add-mul-mod_self_right s l m
    ∙ mod-eq_of_lt lt

module _ (base across down_ s start r m xa ya x y ua da ud dd : ℕ) where
  -- the sums at (xa, ya), which is s, and at (x, y); a step is ua - da across and ud - dd down
  moved : (k l al am dl dm : ℕ) → base + across * xa + down_ * ya + k * m ≡ s * r + l * m
      → across + da * r + al * m ≡ ua * r + am * m → down_ + dd * r + dl * m ≡ ud * r + dm * m
      → start + ua * xa + da * x + ud * ya + dd * y ≡ s + ua * x + da * xa + ud * y + dd * ya
      → base + across * x + down_ * y + (k + al * x + am * xa + dl * y + dm * ya) * m
      ≡ start * r + (l + am * x + al * xa + dm * y + dl * ya) * m
  moved k l al am dl dm e f g h =
      omega (arith, e, ap (λ z. z * x) f, ap (λ z. z * xa) f, ap (λ z. z * y) g, ap (λ z. z * ya) g, ap (λ z. z * r) h)

-- the number of a plane at (x, y)
pub number_is : (base across down_ s start r xa ya x y : ℕ) (step fall : ℤ) → s * r < 2 ^ 64 → start * r < 2 ^ 64
    → (base + across * xa + down_ * ya) % 2 ^ 64 ≡ s * r → IsScaled across step r (2 ^ 64)
    → IsScaled down_ fall r (2 ^ 64)
    → start + up step * xa + down step * x + up fall * ya + down fall * y
    ≡ s + up step * x + down step * xa + up fall * y + down fall * ya
    → (base + across * x + down_ * y) % 2 ^ 64 ≡ start * r
number_is base across down_ s start r xa ya x y step fall fits small e f g h =
    let at_first : base + across * xa + down_ * ya + 0 * 2 ^ 64
    ≡ s * r + (base + across * xa + down_ * ya) / 2 ^ 64 * 2 ^ 64 = omega (arith, e) in
    let all = moved base across down_ s start r (2 ^ 64) xa ya x y (up step) (down step) (up fall) (down fall) 0
    ((base + across * xa + down_ * ya) / 2 ^ 64) f.less f.more g.less g.more at_first f.is g.is h in
    same_rest (base + across * x + down_ * y) (start * r) (0 + f.less * x + f.more * xa + g.less * y + g.more * ya)
    ((base + across * xa + down_ * ya) / 2 ^ 64 + f.more * x + f.less * xa + g.more * y + g.less * ya)
    (2 ^ 64) small all
