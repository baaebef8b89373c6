-- Sums of the channels of two pixels, all at once.
use Rattle.std.proofs.Common.{ℕ, zero, suc, ◌+◌, ◌-◌, ◌*◌, ◌/◌, ◌%◌, ◌^◌, ◌≡◌, ◌≤◌, ◌<◌, ◌∙◌, min, arith, refl, inl}
use Rattle.std.proofs.Common.{inr}
use Rattle.std.proofs.lemmas.Bool.{cases_lt}
use Rattle.std.specs.Int.Bits.{or_zero_r}
use Rattle.std.proofs.lemmas.Nat.{or_block, or_lt, le_or_r, xor_mod, xor_shr}
use lib.Bits.{bit_or, bit_xor}
use Rattle.blend_dither.specs.Color.{packed, red5_of, green5_of, blue5_of, blended_of}

-- ---- the parity of sums

one_bit : (p q : ℕ) → p < 2 → q < 2 → bit_xor p q ≡ (p + q) % 2
one_bit zero zero lp lq = refl
one_bit zero (suc zero) lp lq = refl
one_bit (suc zero) zero lp lq = refl
one_bit (suc zero) (suc zero) lp lq = refl
one_bit (suc (suc p)) q lp lq = omega (arith, lp)
one_bit p (suc (suc q)) lp lq = omega (arith, lq)

xor_bit : (b f k : ℕ) → bit_xor b f / 2 ^ k % 2 ≡ (b / 2 ^ k % 2 + f / 2 ^ k % 2) % 2
xor_bit b f k =
    let down = xor_shr b f k in
    rw down (xor_mod (b / 2 ^ k) (f / 2 ^ k) 1 ∙ one_bit (b / 2 ^ k % 2) (f / 2 ^ k % 2) (omega arith) (omega arith))

-- the lowest bits of the channels of an exclusive or are those of the sums
pub odd_is : (b f x odd : ℕ) → x ≡ bit_xor b f → odd ≡ packed (x % 2) (x / 32 % 2) (x / 1024 % 2)
    → odd ≡ packed ((b % 32 + f % 32) % 2) ((b / 32 % 32 + f / 32 % 32) % 2) ((b / 1024 % 32 + f / 1024 % 32) % 2)
odd_is b f x odd x_is is =
    let red : x % 2 ≡ (b % 2 + f % 2) % 2 =
    rw x_is (xor_mod b f 1 ∙ one_bit (b % 2) (f % 2) (omega arith) (omega arith)) in
    let green : x / 32 % 2 ≡ (b / 32 % 2 + f / 32 % 2) % 2 = rw x_is (xor_bit b f 5) in
    let blue : x / 1024 % 2 ≡ (b / 1024 % 2 + f / 1024 % 2) % 2 = rw x_is (xor_bit b f 10) in
    omega (arith, is, red, green, blue)

-- ---- saturated sums

full_is : (e r g b : ℕ) → r < 32 → g < 32 → b < 32 → e ≡ 2 * packed r g b
    → packed (e / 32 % 2) (e / 32 / 32 % 2) (e / 32 / 1024 % 2) ≡ packed (r / 16) (g / 16) (b / 16)
full_is e r g b lr lg lb is =
    let red : e / 32 % 2 ≡ r / 16 = omega (arith, is, lr) in
    let green : e / 32 / 32 % 2 ≡ g / 16 = omega (arith, is, lr, lg) in
    let blue : e / 32 / 1024 % 2 ≡ b / 16 = omega (arith, is, lr, lg, lb) in
    omega (arith, red, green, blue)

or_packed : (a b c x y z : ℕ) → a < 32 → b < 32 → c < 32 → x < 32 → y < 32 → z < 32
    → bit_or (packed a b c) (packed x y z) ≡ packed (bit_or a x) (bit_or b y) (bit_or c z)
or_packed a b c x y z la lb lc lx ly lz =
    let p : packed a b c ≡ (c * 2 ^ 5 + b) * 2 ^ 5 + a = omega arith in
    let q : packed x y z ≡ (z * 2 ^ 5 + y) * 2 ^ 5 + x = omega arith in
    rw (p, q, or_block 5 (c * 2 ^ 5 + b) (z * 2 ^ 5 + y) a x la lx, or_block 5 c z b y lb ly) (omega arith)

or_below : (v w s : ℕ) → v ≡ s → w ≡ 0 → s < 32 → bit_or v w ≡ min s 31
or_below v w s v_is w_is lt =
    let least : s ≡ min s 31 = omega (arith, lt) in
    rw (v_is, w_is) (or_zero_r s ∙ least)

or_above : (v w s : ℕ) → v < 32 → w ≡ 31 → 32 ≤ s → bit_or v w ≡ min s 31
or_above v w s lt w_is le =
    let most = or_lt 5 v 31 lt (omega arith) in
    let least = le_or_r v 31 in
    rw w_is (omega (arith, most, least, le))

or_full : (s : ℕ) → s < 63 → bit_or (s - 32 * (s / 32)) (31 * (s / 32)) ≡ min s 31
or_full s lt = elim (cases_lt s 32) [
  | inl below ↦ or_below (s - 32 * (s / 32)) (31 * (s / 32)) s (omega (arith, below)) (omega (arith, below)) below
  | inr above ↦ or_above (s - 32 * (s / 32)) (31 * (s / 32)) s (omega (arith, lt)) (omega (arith, lt, above)) above
]

whole_is : (s odd h full r g u : ℕ) → r < 63 → g < 63 → u < 63 → s ≡ packed r g u
    → odd ≡ packed (r % 2) (g % 2) (u % 2) → h ≡ (s - odd) / 2 ^ 5
    → full ≡ packed (h % 2) (h / 32 % 2) (h / 1024 % 2)
    → bit_or (s - full * 32) (full * 31) ≡ packed (min r 31) (min g 31) (min u 31)
whole_is s odd h full r g u lr lg lu s_is odd_at h_is full_at =
    let even : s - odd ≡ 2 * packed (r / 2) (g / 2) (u / 2) = omega (arith, s_is, odd_at) in
    let fulls = rw h_is at full_at in
    let marks : full ≡ packed (r / 2 / 16) (g / 2 / 16) (u / 2 / 16) =
    fulls ∙ full_is (s - odd) (r / 2) (g / 2) (u / 2) (omega (arith, lr)) (omega (arith, lg))
    (omega (arith, lu)) even in
    let low : s - full * 32 ≡ packed (r - 32 * (r / 32)) (g - 32 * (g / 32)) (u - 32 * (u / 32)) =
    omega (arith, marks, s_is) in
    let high : full * 31 ≡ packed (31 * (r / 32)) (31 * (g / 32)) (31 * (u / 32)) = omega (arith, marks) in
    rw (
      low,
      high,
      or_packed (r - 32 * (r / 32)) (g - 32 * (g / 32)) (u - 32 * (u / 32)) (31 * (r / 32)) (31 * (g / 32))
          (31 * (u / 32)) (omega arith) (omega arith) (omega arith) (omega (arith, lr)) (omega (arith, lg))
          (omega (arith, lu)),
      or_full r lr,
      or_full g lg,
      or_full u lu,
    ) refl

pub sum_is : (b f x odd h full : ℕ) → b < 2 ^ 15 → f < 2 ^ 15 → x ≡ bit_xor b f
    → odd ≡ packed (x % 2) (x / 32 % 2) (x / 1024 % 2) → h ≡ (b + f - odd) / 2 ^ 5
    → full ≡ packed (h % 2) (h / 32 % 2) (h / 1024 % 2)
    → bit_or (b + f - full * 32) (full * 31)
    ≡ packed (min (red5_of b + red5_of f) 31) (min (green5_of b + green5_of f) 31) (min (blue5_of b + blue5_of f) 31)
sum_is b f x odd h full lb lf x_is odd_at h_is full_at =
    let r : ℕ = b % 32 + f % 32 in
    let g : ℕ = b / 32 % 32 + f / 32 % 32 in
    let u : ℕ = b / 1024 % 32 + f / 1024 % 32 in
    let lr : r < 63 = omega arith in
    let lg : g < 63 = omega arith in
    let lu : u < 63 = omega arith in
    let parts : b + f ≡ packed r g u = omega (arith, lb, lf) in
    let odds : odd ≡ packed (r % 2) (g % 2) (u % 2) = odd_is b f x odd x_is odd_at in
    whole_is (b + f) odd h full r g u lr lg lu parts odds h_is full_at

pub sum_joined : (b f s x odd even h full p m d q n v : ℕ) → b < 2 ^ 15 → f < 2 ^ 15 → s ≡ b + f → x ≡ bit_xor b f
    → odd ≡ packed (x % 2) (x / 32 % 2) (x / 1024 % 2) → even ≡ s - odd → h ≡ even / 2 ^ 5
    → full ≡ packed (h % 2) (h / 32 % 2) (h / 1024 % 2) → p ≡ 32 → m ≡ full * p → d ≡ s - m → q ≡ 31 → n ≡ full * q
    → v ≡ bit_or d n
    → v
    ≡ packed (min (red5_of b + red5_of f) 31) (min (green5_of b + green5_of f) 31) (min (blue5_of b + blue5_of f) 31)
sum_joined b f s x odd even h full p m d q n v lb lf s_is x_is odd_at even_is h_is full_at p_is m_is d_is q_is n_is
    v_is =
    let halved : h ≡ (b + f - odd) / 2 ^ 5 = rw (even_is, s_is) at h_is in
    let low : d ≡ b + f - full * 32 = rw (m_is, p_is, s_is) at d_is in
    let high : n ≡ full * 31 = rw q_is at n_is in
    rw (v_is, low, high) (sum_is b f x odd h full lb lf x_is odd_at halved full_at)

pub low_packed : (r g b v : ℕ) → v ≡ packed (min r 31) (min g 31) (min b 31) → v < 2 ^ 15
low_packed r g b v is = omega (arith, is)

-- ---- the modes

pub added_is : (back front b f s : ℕ) → b ≡ back % 2 ^ 15 → f ≡ front % 2 ^ 15
    → s ≡ packed (min (red5_of b + red5_of f) 31) (min (green5_of b + green5_of f) 31)
    (min (blue5_of b + blue5_of f) 31)
    → s ≡ blended_of 1 back front
added_is back front b f s b_is f_is is = omega (arith, b_is, f_is, is)

-- a difference as the inverted sum of the inverted channel and the other one
one_less : (x y : ℕ) → x < 32 → min (31 - x + y) 31 + (x - y) ≡ 31
one_less x y lt = omega (arith, lt)

inverted_is : (a b c x y z : ℕ) → a + x ≡ 31 → b + y ≡ 31 → c + z ≡ 31 → 32767 - packed a b c ≡ packed x y z
inverted_is a b c x y z red green blue = omega (arith, red, green, blue)

pub subtracted_is : (back front b c f s : ℕ) → b ≡ back % 2 ^ 15 → c ≡ 32767 - b → f ≡ front % 2 ^ 15
    → s ≡ packed (min (red5_of c + red5_of f) 31) (min (green5_of c + green5_of f) 31)
    (min (blue5_of c + blue5_of f) 31)
    → 32767 - s ≡ blended_of 2 back front
subtracted_is back front b c f s b_is c_is f_is is =
    let red : red5_of c ≡ 31 - back % 32 = omega (arith, b_is, c_is) in
    let green : green5_of c ≡ 31 - back / 32 % 32 = omega (arith, b_is, c_is) in
    let blue : blue5_of c ≡ 31 - back / 1024 % 32 = omega (arith, b_is, c_is) in
    let front_red : red5_of f ≡ front % 32 = omega (arith, f_is) in
    let front_green : green5_of f ≡ front / 32 % 32 = omega (arith, f_is) in
    let front_blue : blue5_of f ≡ front / 1024 % 32 = omega (arith, f_is) in
    rw (is, red, green, blue, front_red, front_green, front_blue)
    (inverted_is (min (31 - back % 32 + front % 32) 31) (min (31 - back / 32 % 32 + front / 32 % 32) 31)
    (min (31 - back / 1024 % 32 + front / 1024 % 32) 31) (back % 32 - front % 32) (back / 32 % 32 - front / 32 % 32)
    (back / 1024 % 32 - front / 1024 % 32) (one_less (back % 32) (front % 32) (omega arith))
    (one_less (back / 32 % 32) (front / 32 % 32) (omega arith))
    (one_less (back / 1024 % 32) (front / 1024 % 32) (omega arith)))

pub quarter_is : (a t : ℕ) → a < 2 ^ 15 → t ≡ packed (a % 4) (a / 32 % 4) (a / 1024 % 4)
    → (a - t) / 2 ^ 2 ≡ packed (red5_of a / 4) (green5_of a / 4) (blue5_of a / 4)
quarter_is a t lt is = omega (arith, lt, is)

pub quarter_added_is : (back front b f q s : ℕ) → b ≡ back % 2 ^ 15 → f ≡ front % 2 ^ 15
    → q ≡ packed (red5_of f / 4) (green5_of f / 4) (blue5_of f / 4)
    → s ≡ packed (min (red5_of b + red5_of q) 31) (min (green5_of b + green5_of q) 31)
    (min (blue5_of b + blue5_of q) 31)
    → s ≡ blended_of 3 back front
quarter_added_is back front b f q s b_is f_is q_is is =
    let red : red5_of q ≡ front % 32 / 4 = omega (arith, f_is, q_is) in
    let green : green5_of q ≡ front / 32 % 32 / 4 = omega (arith, f_is, q_is) in
    let blue : blue5_of q ≡ front / 1024 % 32 / 4 = omega (arith, f_is, q_is) in
    omega (arith, b_is, red, green, blue, is)
