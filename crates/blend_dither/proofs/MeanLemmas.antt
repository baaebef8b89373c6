-- The mean of two pixels.
use Rattle.std.proofs.Common.{ℕ, ◌+◌, ◌-◌, ◌/◌, ◌%◌, ◌^◌, ◌≡◌, ◌<◌, ◌∙◌, arith}
use lib.Bits.{bit_xor}
use Rattle.blend_dither.specs.Color.{packed}
use Rattle.blend_dither.proofs.SumLemmas.{odd_is}

channels_of : (h : ℕ) → h % 2 ^ 15 ≡ packed (h % 32) (h / 32 % 32) (h / 1024 % 32)
channels_of h = omega arith

-- half the sums, channel by channel
half_of : (s odd r g b : ℕ) → r < 63 → g < 63 → b < 63 → s ≡ packed r g b → odd ≡ packed (r % 2) (g % 2) (b % 2)
    → (s - odd) / 2 ≡ packed (r / 2) (g / 2) (b / 2)
half_of s odd r g b lr lg lb e o = omega (arith, e, o)

pub mean_is : (back front b f x odd : ℕ) → b ≡ back % 2 ^ 15 → f ≡ front % 2 ^ 15 → x ≡ bit_xor b f
    → odd ≡ packed (x % 2) (x / 32 % 2) (x / 1024 % 2)
    → (b + f - odd) / 2
    ≡ packed ((back % 32 + front % 32) / 2) ((back / 32 % 32 + front / 32 % 32) / 2)
    ((back / 1024 % 32 + front / 1024 % 32) / 2)
mean_is back front b f x odd b_is f_is x_is is =
    let br : ℕ = back % 32 in
    let bg : ℕ = back / 32 % 32 in
    let bb : ℕ = back / 1024 % 32 in
    let fr : ℕ = front % 32 in
    let fg : ℕ = front / 32 % 32 in
    let fb : ℕ = front / 1024 % 32 in
    let b_parts : b ≡ packed br bg bb = b_is ∙ channels_of back in
    let f_parts : f ≡ packed fr fg fb = f_is ∙ channels_of front in
    let odds = odd_is b f x odd x_is is in
    let same : odd ≡ packed ((br + fr) % 2) ((bg + fg) % 2) ((bb + fb) % 2) = omega (arith, odds, b_is, f_is) in
    half_of (b + f) odd (br + fr) (bg + fg) (bb + fb) (omega arith) (omega arith) (omega arith)
    (omega (arith, b_parts, f_parts)) same
