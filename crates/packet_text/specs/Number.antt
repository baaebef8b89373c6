-- Numbers as text (our own rule): words in eight hexadecimal digits, cells in four, lower case.
use Rattle.std.specs.Prelude.{ℕ, zero, suc, List, [], ◌∷◌, ◌++◌, ◌+◌, ◌/◌, ◌%◌, nat_lt, if◌then◌else◌}

-- a digit: 0 to 9, then a to f
abbrev pub hex_digit : ℕ → ℕ
hex_digit n = if nat_lt n 10 then 48 + n else 87 + n

-- the last n hexadecimal digits of a number
abbrev pub hex_digits_of : ℕ → ℕ → List ℕ
hex_digits_of zero number = []
hex_digits_of (suc n) number = hex_digits_of n (number / 16) ++ hex_digit (number % 16) ∷ []

-- a word in eight digits
unfoldable pub word_text : ℕ → List ℕ
word_text word = hex_digits_of 8 word

-- a cell in four digits
unfoldable pub cell_text : ℕ → List ℕ
cell_text cell = hex_digits_of 4 cell

-- an address of 24 bits in six digits
unfoldable pub address_text : ℕ → List ℕ
address_text address = hex_digits_of 6 address
