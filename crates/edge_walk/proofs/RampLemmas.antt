-- Lines computed from the values that all lines of a plane share.
use Rattle.std.proofs.Common.{ℕ, ◌+◌, ◌*◌, ◌/◌, ◌%◌, ◌^◌, ◌≡◌, ap, sym, ◌∙◌, arith}

-- a number modulo 2^64 with 8 added to its upper half
eight_more : (a : ℕ) → (a + 8 * 2 ^ 32) % 2 ^ 64 / 2 ^ 32 ≡ (a % 2 ^ 64 / 2 ^ 32 + 8) % 2 ^ 32
eight_more a = omega arith

-- the number of the ninth cell is the same from the plane's start and from an earlier cell of the row
pub ninth_is : (base across down x y from at start row ninth : ℕ) → from + at ≡ x
    → start ≡ ((base + across * (8 + 2 ^ 31) + down * 2 ^ 31) % 2 ^ 64 + 8 * 2 ^ 32) % 2 ^ 64
    → row ≡ (start + down * y) % 2 ^ 64 → ninth ≡ (row + across * x) % 2 ^ 64
    → ninth / 2 ^ 32
    ≡ (((base + across * (from + 2 ^ 31) + down * (y + 2 ^ 31)) % 2 ^ 64 + across * (at + 8)) % 2 ^ 64 / 2 ^ 32 + 8)
    % 2 ^ 32
ninth_is base across down x y from at start row ninth place begin along here =
    let parts : across * x ≡ across * from + across * at = ap (λ (c : ℕ). across * c) (sym place) ∙ omega arith in
    let a : ℕ = base + across * (8 + 2 ^ 31) + across * x + down * 2 ^ 31 + down * y in
    let sum : ninth ≡ (a + 8 * 2 ^ 32) % 2 ^ 64 = omega (arith, begin, along, here) in
    let same : ((base + across * (from + 2 ^ 31) + down * (y + 2 ^ 31)) % 2 ^ 64 + across * (at + 8)) % 2 ^ 64
    ≡ a % 2 ^ 64 = omega (arith, parts) in
    rw (sum, same) (eight_more a)
