-- Recognizes a file by its first 8 bytes (our own rule). A command knows some heads, and accepts a file that begins
-- with one of them.
use Rattle.std.specs.Prelude.{ℕ, List, [], ◌∷◌, Option, Some, None, Result, Ok, Err, not, ◌==◌, max, position}
use Rattle.std.specs.Prelude.{unwrap_or, zip}
use Rattle.std.specs.List.{position_from}

-- the first offset at which the bytes differ from a head
abbrev pub first_difference : (head bytes : List ℕ) → Option ℕ
first_difference head bytes = position (λ pair. not (pair.0 == pair.1)) (zip head bytes)

-- the length of their common prefix
abbrev pub offset_of_difference : (head bytes : List ℕ) → ℕ
offset_of_difference head bytes = unwrap_or (first_difference head bytes) 8

-- the first offset at which the bytes differ from every head
abbrev pub furthest_offset : List (List ℕ) → (bytes : List ℕ) → ℕ
furthest_offset [] bytes = 0
furthest_offset (head ∷ heads) bytes = max (offset_of_difference head bytes) (furthest_offset heads bytes)

-- the index, from 0, of the first head that equals these 8 bytes
abbrev pub number_of_head : List (List ℕ) → (bytes : List ℕ) → Option ℕ
number_of_head heads bytes = position_from (λ head. offset_of_difference head bytes == 8) 0 heads

abbrev pub number_or_offset : Option ℕ → ℕ → Result ℕ ℕ
number_or_offset None offset = Err offset
number_or_offset (Some number) offset = Ok number

-- the index of that head, or else the first offset at which the bytes differ from every head
abbrev pub head_among : List (List ℕ) → (bytes : List ℕ) → Result ℕ ℕ
head_among heads bytes = number_or_offset (number_of_head heads bytes) (furthest_offset heads bytes)
