-- One bit for each word of main memory, in words of 64 bits.
use Rattle.std.specs.Prelude.{ℕ, List, Bool, ◌/◌, ◌%◌, ◌==◌, slice_index}
use Rattle.std.specs.Int.{bit_at}

-- the bit with this index is set
abbrev pub is_marked : (words : List ℕ) (place : ℕ) → Bool
is_marked words place = bit_at (slice_index words (place / 64)) (place % 64) == 1
