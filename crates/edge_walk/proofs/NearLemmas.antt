-- Attributes along a row in 32 bits.
use Rattle.std.proofs.Common.{ℕ, zero, suc, ◌+◌, ◌-◌, ◌*◌, ◌/◌, ◌%◌, ◌^◌, ◌≤◌, ◌<◌, ◌≡◌, arith}

-- lane j of a line, in 32 bits: `first` is the number of the line's first cell, and w the sum of the steps to the
-- first of the sixteen cells
abbrev pub short_sum : ℕ → ℕ → ℕ → ℕ → ℕ
short_sum j first w step =
    ((j + (2 ^ 32 - 8)) % 2 ^ 32 * ((step + 2 ^ 31) % 2 ^ 64 / 2 ^ 32) % 2 ^ 32 +
    ((first + (w + step * 8)) % 2 ^ 64 / 2 ^ 32 + 8) % 2 ^ 32) % 2 ^ 32

-- 2^32 times the sum exceeds the exact number by 3 to 12 units of 2^32
pub record IsNear (sum exact : ℕ) : Type 0 where
  pub above : exact + 3 * 2 ^ 32 ≤ 2 ^ 32 * sum
  pub below : 2 ^ 32 * sum ≤ exact + 12 * 2 ^ 32

pub near : (j first w step exact : ℕ) → j < 16 → (first + w + step * j) % 2 ^ 64 ≡ exact → exact + 12 * 2 ^ 32 < 2 ^ 64
    → IsNear (short_sum j first w step) exact
near zero first w step exact lt e small = record { above = omega (arith, e, small); below = omega (arith, e, small) }
near (suc zero) first w step exact lt e small = record {
  above = omega (arith, e, small);
  below = omega
      (arith, e, small);
}
near (suc (suc zero)) first w step exact lt e small = record {
  above = omega (arith, e, small);
  below = omega
      (arith, e, small);
}
near (suc (suc (suc zero))) first w step exact lt e small = record {
  above = omega (arith, e, small);
  below = omega
      (arith, e, small);
}
near (suc (suc (suc (suc zero)))) first w step exact lt e small =
    record { above = omega (arith, e, small); below = omega (arith, e, small) }
near (suc (suc (suc (suc (suc zero))))) first w step exact lt e small =
    record { above = omega (arith, e, small); below = omega (arith, e, small) }
near (suc (suc (suc (suc (suc (suc zero)))))) first w step exact lt e small =
    record { above = omega (arith, e, small); below = omega (arith, e, small) }
near (suc (suc (suc (suc (suc (suc (suc zero))))))) first w step exact lt e small =
    record { above = omega (arith, e, small); below = omega (arith, e, small) }
near (suc (suc (suc (suc (suc (suc (suc (suc zero)))))))) first w step exact lt e small =
    record { above = omega (arith, e, small); below = omega (arith, e, small) }
near (suc (suc (suc (suc (suc (suc (suc (suc (suc zero))))))))) first w step exact lt e small =
    record { above = omega (arith, e, small); below = omega (arith, e, small) }
near (suc (suc (suc (suc (suc (suc (suc (suc (suc (suc zero)))))))))) first w step exact lt e small =
    record { above = omega (arith, e, small); below = omega (arith, e, small) }
near (suc (suc (suc (suc (suc (suc (suc (suc (suc (suc (suc zero))))))))))) first w step exact lt e small =
    record { above = omega (arith, e, small); below = omega (arith, e, small) }
near (suc (suc (suc (suc (suc (suc (suc (suc (suc (suc (suc (suc zero)))))))))))) first w step exact lt e small =
    record { above = omega (arith, e, small); below = omega (arith, e, small) }
near (suc (suc (suc (suc (suc (suc (suc (suc (suc (suc (suc (suc (suc zero))))))))))))) first w step exact lt e small =
    record { above = omega (arith, e, small); below = omega (arith, e, small) }
near (suc (suc (suc (suc (suc (suc (suc (suc (suc (suc (suc (suc (suc (suc zero)))))))))))))) first w step exact lt e
    small = record { above = omega (arith, e, small); below = omega (arith, e, small) }
near (suc (suc (suc (suc (suc (suc (suc (suc (suc (suc (suc (suc (suc (suc (suc zero))))))))))))))) first w step exact
    lt e small = record { above = omega (arith, e, small); below = omega (arith, e, small) }
near (suc (suc (suc (suc (suc (suc (suc (suc (suc (suc (suc (suc (suc (suc (suc (suc j)))))))))))))))) first w step
    exact lt e small = absurd (omega (arith, lt))
