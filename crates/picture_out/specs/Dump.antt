-- Video memory as bytes (our own rule): the cells row by row, the low byte of each cell first.
use Rattle.std.specs.Prelude.{ℕ, List, [], ◌∷◌, ◌*◌, ◌/◌, ◌%◌, flat_map}
use Rattle.vram_store.specs.Vram.{height_of}

-- the low byte first
abbrev pub cell_bytes : ℕ → List ℕ
cell_bytes cell = cell % 256 ∷ cell / 256 ∷ []

abbrev pub dump : List ℕ → List ℕ
dump m = flat_map cell_bytes m

-- the store steps of a dump: one for sixteen cells
abbrev pub dump_cost : List ℕ → ℕ
dump_cost m = 64 * height_of m
