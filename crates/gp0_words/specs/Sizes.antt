-- The size word of a copy, load or store (psx-spx, "GPU Memory Transfer Commands").
use Rattle.std.specs.Prelude.{ℕ, ◌+◌, ◌*◌, ◌/◌, ◌%◌, ◌^◌}

-- ((SW - 1) and 3FFh) + 1: it is never 0, and 0 means 1024
abbrev pub width_of : (size : ℕ) → ℕ
width_of size = (size % 2 ^ 16 + 1023) % 1024 + 1

-- ((SH - 1) and 1FFh) + 1: 0 means 512
abbrev pub height_of : (size : ℕ) → ℕ
height_of size = (size / 2 ^ 16 + 511) % 512 + 1

-- the data words of a load: two cells in each
abbrev pub data_words_of : (size : ℕ) → ℕ
data_words_of size = (width_of size * height_of size + 1) / 2

-- the data words of the largest load
abbrev pub most_data_words : ℕ
most_data_words = 262144
