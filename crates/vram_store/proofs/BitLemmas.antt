-- Bits of a mask, one by one.
use Rattle.std.proofs.Common.{◌≡◌, ℕ, zero, suc, ◌+◌, ◌*◌, ◌/◌, ◌%◌, ◌^◌, ◌<◌, eqb, arith}
use lib.Bits.{bit_and}
use Rattle.std.proofs.lemmas.Bool.Decides.{nat_tests}
use Rattle.std.proofs.lemmas.Nat.{and_block, and_mask, and_le_r}
use Rattle.vram_store.specs.Vram.{bit}

power : (i : ℕ) → 0 < 2 ^ i
power zero = omega arith
power (suc i) = let h = power i in omega (arith, h)

pub masked_bit : (m i : ℕ) → bit_and m (2 ^ i) ≡ bit m i * 2 ^ i
masked_bit m i =
    let low : m % 2 ^ i < 2 ^ i = omega (arith, power i) in
    let e = and_block i (m / 2 ^ i) 1 (m % 2 ^ i) 0 low (power i) in
    let split : m / 2 ^ i * 2 ^ i + m % 2 ^ i ≡ m = omega (arith, power i) in
    let one : bit_and (m / 2 ^ i) 1 ≡ m / 2 ^ i % 2 = and_mask (m / 2 ^ i) 1 in
    let none : bit_and (m % 2 ^ i) 0 ≡ 0 = (let le = and_le_r (m % 2 ^ i) 0 in omega (arith, le)) in
    grind (arith, e, split, one, none)

pub bit_test : (m i : ℕ) → eqb (bit_and m (2 ^ i)) (2 ^ i) ≡ eqb (bit m i) 1
bit_test m i = rw (masked_bit m i) (times (bit m i) (2 ^ i) (power i) (omega arith))
  where
    times : (b p : ℕ) → 0 < p → b < 2 → eqb (b * p) p ≡ eqb b 1
    times zero p h lt = grind (arith, nat_tests)
    times (suc zero) p h lt = grind (arith, nat_tests)
    times (suc (suc b)) p h lt = absurd (omega arith)
