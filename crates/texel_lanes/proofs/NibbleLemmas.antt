-- Four and eight bits of a halfword.
use Rattle.std.proofs.Common.{◌≡◌, ◌<◌, ℕ, zero, suc, ◌+◌, ◌-◌, ◌*◌, ◌/◌, ◌%◌, ◌^◌, List, ◌∷◌, get_or, cond, eqb}
use Rattle.std.proofs.Common.{refl, ap, arith}
use Rattle.texture_page.specs.Page.{index_in}
use Rattle.texel_lanes.specs.Nibbles.{raise, raise_byte}

by_column : (h at : ℕ) → at < 4 → h * 2 ^ (12 - 4 * at) % 2 ^ 16 / 2 ^ 12 ≡ h / 2 ^ (4 * at) % 16
by_column h zero lt = omega arith
by_column h (suc zero) lt = omega arith
by_column h (suc (suc zero)) lt = omega arith
by_column h (suc (suc (suc zero))) lt = omega arith
by_column h (suc (suc (suc (suc at)))) lt = absurd (omega arith)

pub nibble_is : (a h : ℕ) → h * raise a % 2 ^ 16 / 2 ^ 12 ≡ index_in 0 a h
unfolding raise
nibble_is a h = by_column h (a % 4) (omega arith)

-- the four bits of a column are the low or the high half of one byte of its halfword
by_half : (h at : ℕ) → at < 4
    → cond (eqb (at % 2) 0) (h / 256 ^ (at / 2) % 256 % 16) (h / 256 ^ (at / 2) % 256 / 2 ^ 4) ≡ h / 2 ^ (4 * at) % 16
by_half h zero lt = omega arith
by_half h (suc zero) lt = omega arith
by_half h (suc (suc zero)) lt = omega arith
by_half h (suc (suc (suc zero))) lt = omega arith
by_half h (suc (suc (suc (suc at)))) lt = absurd (omega arith)

pub half_byte : (a h : ℕ)
    → cond (eqb (a % 2) 0) (h / 256 ^ (a / 2 % 2) % 256 % 16) (h / 256 ^ (a / 2 % 2) % 256 / 2 ^ 4) ≡ index_in 0 a h
half_byte a h =
    let bit : a % 4 % 2 ≡ a % 2 = omega arith in
    let byte : a % 4 / 2 ≡ a / 2 % 2 = omega arith in
    rw (bit, byte) at (by_half h (a % 4) (omega arith))

pub raise_low : (a : ℕ) → raise (a % 4) ≡ raise a
unfolding raise
raise_low a = ap (λ at. 2 ^ (12 - 4 * at)) (omega arith)

pub raised : (rest : List ℕ) (i : ℕ) → i < 4 → get_or (4096 ∷ 256 ∷ 16 ∷ 1 ∷ rest) i 0 ≡ raise i
unfolding raise
raised rest zero lt = refl
raised rest (suc zero) lt = refl
raised rest (suc (suc zero)) lt = refl
raised rest (suc (suc (suc zero))) lt = refl
raised rest (suc (suc (suc (suc i)))) lt = absurd (omega arith)

byte_of : (h at : ℕ) → at < 2 → h * 2 ^ (8 - 8 * at) % 2 ^ 16 / 2 ^ 8 ≡ h / 2 ^ (8 * at) % 256
byte_of h zero lt = omega arith
byte_of h (suc zero) lt = omega arith
byte_of h (suc (suc at)) lt = absurd (omega arith)

pub byte_is : (a h : ℕ) → h * raise_byte a % 2 ^ 16 / 2 ^ 8 ≡ index_in 1 a h
unfolding raise_byte
byte_is a h = byte_of h (a % 2) (omega arith)

pub raise_byte_low : (a : ℕ) → raise_byte (a % 2) ≡ raise_byte a
unfolding raise_byte
raise_byte_low a = ap (λ at. 2 ^ (8 - 8 * at)) (omega arith)

pub raised_byte : (rest : List ℕ) (i : ℕ) → i < 2 → get_or (256 ∷ 1 ∷ rest) i 0 ≡ raise_byte i
unfolding raise_byte
raised_byte rest zero lt = refl
raised_byte rest (suc zero) lt = refl
raised_byte rest (suc (suc i)) lt = absurd (omega arith)

by_byte : (low high at : ℕ) → at < 2 → low < 256 → high < 256
    → cond (eqb at 0) low high ≡ (low + 256 * high) / 2 ^ (8 * at) % 256
by_byte low high zero lt l h = omega arith
by_byte low high (suc zero) lt l h = omega arith
by_byte low high (suc (suc at)) lt l h = absurd (omega arith)

-- the eight bits of a column are the low or the high byte of its halfword
pub byte_of_two : (low high a : ℕ) → low < 256 → high < 256
    → cond (eqb (a % 2) 0) low high ≡ index_in 1 a (low + 256 * high)
byte_of_two low high a l h = by_byte low high (a % 2) (omega arith) l h
