-- The packets of a demo: a long list of valid words that is generated from a number (our own rule).
use Rattle.std.specs.Prelude.{ℕ, zero, suc, ◌+◌, ◌*◌, ◌/◌, ◌%◌, ◌^◌, ◌==◌, if◌then◌else◌, List, [], ◌∷◌, ◌++◌, map}
use Rattle.std.specs.Prelude.{flat_map, slice_index}
use Rattle.std.specs.List.{range_with_len}
use Rattle.gpu_capture.specs.declared.event.Event.{Event}
use Rattle.gpu_capture.specs.declared.event.Event.TheVariants.{Gp0}

-- ---- the numbers drawn

-- the number after a draw
abbrev pub drawn : ℕ → ℕ
drawn number = (1664525 * number + 1013904223) % 2 ^ 32

-- the number after `draws` draws
abbrev pub after_draws : (draws number : ℕ) → ℕ
after_draws zero number = number
after_draws (suc n) number = drawn (after_draws n number)

-- ---- one packet

-- in turn: a fill, a triangle, a shaded quad, a textured triangle, a textured rectangle, a line, a copy, a shaded
-- textured quad
abbrev pub opcodes : List ℕ
opcodes = 0x02 ∷ 0x20 ∷ 0x38 ∷ 0x24 ∷ 0x64 ∷ 0x40 ∷ 0x80 ∷ 0x3e ∷ []

-- the number of words of each
abbrev pub lengths : List ℕ
lengths = 3 ∷ 4 ∷ 8 ∷ 7 ∷ 4 ∷ 3 ∷ 4 ∷ 12 ∷ []

abbrev pub opcode_of : (k : ℕ) → ℕ
opcode_of k = slice_index opcodes (k % 8)

abbrev pub length_of : (k : ℕ) → ℕ
length_of k = slice_index lengths (k % 8)

-- word j of a packet, from its draw: the first has the opcode above the draw's low 24 bits, and each further one the
-- low nine bits of each of the draw's halves
abbrev pub word_of : (opcode j draw : ℕ) → ℕ
word_of opcode j draw =
    if j == 0 then opcode * 2 ^ 24 + draw % 2 ^ 24 else draw / 2 ^ 16 % 2 ^ 9 * 2 ^ 16 + draw % 2 ^ 9

abbrev pub packet_word : (k number j : ℕ) → ℕ
packet_word k number j = word_of (opcode_of k) j (after_draws (j + 1) number)

-- packet k, from a generator with this state: a draw for each of its words
abbrev pub packet : (k number : ℕ) → List ℕ
packet k number = map (packet_word k number) (range_with_len 0 (length_of k))

-- ---- all packets

-- the state of the generator before packet k of n: it begins at n
abbrev pub number_before : (n k : ℕ) → ℕ
number_before n zero = n
number_before n (suc k) = after_draws (length_of k) (number_before n k)

abbrev pub first_packets : (n k : ℕ) → List ℕ
first_packets n k = flat_map (λ k. packet k (number_before n k)) (range_with_len 0 k)

-- textures of 15 bits with dither, the drawing area from (0, 0) to (1023, 511), and then n packets
abbrev pub prologue : List ℕ
prologue = 0xe1000200 ∷ 0xe3000000 ∷ 0xe407ffff ∷ []

unfoldable pub demo_words : (n : ℕ) → List ℕ
demo_words n = prologue ++ first_packets n n

-- each word is an event
abbrev pub demo_events : (n : ℕ) → List Event
demo_events n = map Gp0 (demo_words n)
