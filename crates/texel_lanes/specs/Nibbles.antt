-- The positions of four-bit and eight-bit texels in their halfword.
use Rattle.std.specs.Prelude.{ℕ, ◌-◌, ◌*◌, ◌%◌, ◌^◌}

-- the factor that moves the four bits of a column to the top of their halfword
unfoldable pub raise : ℕ → ℕ
raise column = 2 ^ (12 - 4 * (column % 4))

-- the factor that moves the eight bits of a column to the top of their halfword
unfoldable pub raise_byte : ℕ → ℕ
raise_byte column = 2 ^ (8 - 8 * (column % 2))
