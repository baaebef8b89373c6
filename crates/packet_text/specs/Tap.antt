-- The lines of taps and sums (our own rule). Each ends with one newline byte.
use Rattle.std.specs.Prelude.{ℕ, List, [], ◌∷◌, ◌++◌, ◌*◌, ◌/◌, ◌-◌, ◌==◌, if◌then◌else◌, codes, decimal, drop}
use Rattle.std.specs.Prelude.{flat_map, length}
use Rattle.gpu_taps.specs.Tally.{Reading}

-- a number in decimal after one space
abbrev pub number_text : ℕ → List ℕ
number_text number = codes " " ++ decimal number

abbrev pub numbers_text : List ℕ → List ℕ
numbers_text numbers = flat_map number_text numbers

-- the kind of a tap and its numbers
unfoldable pub tap_line : Reading → List ℕ
tap_line reading = codes "tap " ++ (decimal reading.kind ++ (numbers_text reading.numbers ++ codes "\n"))

-- the sum of all cells of video memory
unfoldable pub sum_line : ℕ → List ℕ
sum_line sum = codes "sum " ++ (decimal sum ++ codes "\n")

-- ---- the last items before a fault, as a tap of kind 1 has recorded them

-- one item: event, class and head
unfoldable pub item_line : (event class head : ℕ) → List ℕ
item_line event class head =
    codes "psxgpu: last" ++ (number_text event ++ (number_text class ++ (number_text head ++ codes "\n")))

-- a line for each complete group of three numbers; the numbers after the last complete group are left out
abbrev pub item_lines : List ℕ → List ℕ
item_lines (event ∷ class ∷ head ∷ numbers) = item_line event class head ++ item_lines numbers
item_lines numbers = []

-- the numbers from the eighth group from the end on, or all if there are at most eight complete groups
abbrev pub last_numbers : List ℕ → List ℕ
last_numbers numbers = drop (3 * (length numbers / 3 - 8)) numbers

-- the last eight items; no line for a tap of another kind
unfoldable pub last_lines : Reading → List ℕ
last_lines reading = if reading.kind == 1 then item_lines (last_numbers reading.numbers) else []
