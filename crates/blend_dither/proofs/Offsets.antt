-- Each dither offset is from -4 to 3.
use Rattle.std.proofs.Common.{ℕ, ◌<◌, ◌+◌, ◌-◌, ◌*◌, ◌/◌, min, ap, pos, negsuc, get_or, arith, ◌≡◌, ℤ, to_z, of_z, w8}
use Rattle.std.proofs.Common.{SFits}
use Rattle.std.proofs.lemmas.Int.{ints, to_z-of_z}
use Rattle.std.proofs.lemmas.Simd.{Each1-get_or}
use lib.Lanes.{Each1}
use Rattle.blend_dither.specs.Color.{dither_offsets, IsShift, tone_channel, tone_of, packed, modulated_of, red5_of}
use Rattle.blend_dither.specs.Color.{green5_of, blue5_of}
use Rattle.blend_dither.specs.Bias.{IsBias}

pub small_offset : (i : ℕ) → i < 16 → IsShift (get_or dither_offsets i (pos 0))
small_offset i lt =
    let all : Each1 IsShift dither_offsets = omega (arith, ints) in
    Each1-get_or IsShift dither_offsets i (pos 0) lt all

pub small_read : (z : ℤ) → IsShift z → IsShift (to_z w8 (of_z w8 z))
small_read z small =
    let fits : SFits w8 z = omega (arith, ints) in
    simp to_z-of_z small

pub low_bias : (b : ℕ) (s : ℤ) → IsShift s → IsBias b s → b < 8
low_bias b s small is = omega (arith, ints)

-- a five-bit channel computed from the offset's bias
pub tone_by_bias : (c b : ℕ) (s : ℤ) → IsBias b s → min (c + b - 4) 255 / 8 ≡ tone_channel c s
tone_by_bias c b (pos s) is = ap (λ n. n / 8) (omega (arith, ints))
tone_by_bias c b (negsuc s) is = ap (λ n. n / 8) (omega (arith, ints))

pub tone_joined : (r g b k : ℕ) (s : ℤ) (x y z v : ℕ) → IsBias k s → x ≡ min (r + k - 4) 255 / 8
    → y ≡ min (g + k - 4) 255 / 8 → z ≡ min (b + k - 4) 255 / 8 → v ≡ packed x y z → v ≡ tone_of r g b s
tone_joined r g b k s x y z v is red green blue all =
    let by_red = tone_by_bias r k s is in
    let by_green = tone_by_bias g k s is in
    let by_blue = tone_by_bias b k s is in
    cc

pub modulated_joined : (t u w r g b k : ℕ) (s : ℤ) (x y z v h : ℕ) → IsBias k s
    → x ≡ min (8 * t * r / 128 + k - 4) 255 / 8 → y ≡ min (8 * u * g / 128 + k - 4) 255 / 8
    → z ≡ min (8 * w * b / 128 + k - 4) 255 / 8
    → t ≡ red5_of h → u ≡ green5_of h → w ≡ blue5_of h → v ≡ packed x y z → v ≡ modulated_of h r g b s
modulated_joined t u w r g b k s x y z v h is red green blue a b' c' all =
    let by_red = tone_by_bias (8 * t * r / 128) k s is in
    let by_green = tone_by_bias (8 * u * g / 128) k s is in
    let by_blue = tone_by_bias (8 * w * b / 128) k s is in
    cc
