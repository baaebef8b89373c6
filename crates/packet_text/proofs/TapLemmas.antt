-- The lines of taps, number by number and item by item.
use Rattle.std.proofs.Common.{◌≡◌, ◌<◌, ◌≤◌, ◌+◌, ◌*◌, ◌/◌, ◌++◌, ℕ, List, [], ◌∷◌, length, drop, slice_index, refl}
use Rattle.std.proofs.Common.{arith}
use Rattle.std.proofs.lemmas.List.{drop_more, length-drop}
use Rattle.packet_text.specs.Tap.{number_text, numbers_text, item_line, item_lines}

-- the next number and those after it
pub numbers_next : (numbers : List ℕ) (i number : ℕ) → i < length numbers → number ≡ slice_index numbers i
    → numbers_text (drop i numbers) ≡ number_text number ++ numbers_text (drop (i + 1) numbers)
numbers_next numbers i number lt is = rw (drop_more numbers i 0 lt, is) refl

-- the next item and those after it
pub items_next : (numbers : List ℕ) (item event class head : ℕ) → 3 * item + 3 ≤ length numbers
    → event ≡ slice_index numbers (3 * item) → class ≡ slice_index numbers (3 * item + 1)
    → head ≡ slice_index numbers (3 * item + 2)
    → item_lines (drop (3 * item) numbers) ≡ item_line event class head ++ item_lines (drop (3 * (item + 1)) numbers)
items_next numbers item event class head le is_event is_class is_head =
    let second : 3 * item + 1 + 1 ≡ 3 * item + 2 = omega arith in
    let third : 3 * item + 2 + 1 ≡ 3 * (item + 1) = omega arith in
    rw (
      drop_more numbers (3 * item) 0 (omega (arith, le)),
      drop_more numbers (3 * item + 1) 0 (omega (arith, le)),
      second,
      drop_more numbers (3 * item + 2) 0 (omega (arith, le)),
      third,
      is_event,
      is_class,
      is_head,
    ) refl

-- fewer than three numbers are not an item
few_items : (numbers : List ℕ) → length numbers < 3 → item_lines numbers ≡ []
few_items [] lt = refl
few_items (a ∷ []) lt = refl
few_items (a ∷ b ∷ []) lt = refl
few_items (a ∷ b ∷ c ∷ numbers) lt = absurd (omega (arith, lt))

-- no item is left after the last complete group
pub items_end : (numbers : List ℕ) (item : ℕ) → length numbers / 3 ≤ item → item_lines (drop (3 * item) numbers) ≡ []
items_end numbers item le =
    few_items (drop (3 * item) numbers) (let long = length-drop (3 * item) numbers in omega (arith, long, le))
