-- The form of a packet, by its first word (psx-spx, "GPU Render Polygon Commands", "GPU Render Line Commands", "GPU
-- Render Rectangle Commands", "GPU Memory Transfer Commands").
use Rattle.std.specs.Prelude.{ℕ, ◌+◌, ◌-◌, ◌*◌, ◌/◌, ◌%◌, ◌^◌, Bool, ◌==◌, ◌&&◌, if◌then◌else◌, bit_and}
use Rattle.std.specs.Int.{bit_at}
use Rattle.gp0_words.specs.declared.kind.Kind.{Kind}
use Rattle.gp0_words.specs.declared.kind.Kind.TheVariants.{Plain, Load, Polyline}

abbrev pub is_set : (word k : ℕ) → Bool
is_set word k = bit_at word k == 1

-- the top three bits: 0 miscellaneous, 1 polygon, 2 line, 3 rectangle, 4 copy, 5 load, 6 store, 7 environment
abbrev pub class_of : ℕ → ℕ
class_of word = word / 2 ^ 29

-- the top eight bits
abbrev pub opcode_of : ℕ → ℕ
opcode_of word = word / 2 ^ 24

-- For each vertex: a colour if shaded (bit 28), the vertex, and a texcoord if textured (bit 26). Bit 27 adds a fourth
-- vertex. The command word contains the first or only colour.
abbrev pub polygon_len_of : ℕ → ℕ
polygon_len_of word = (3 + bit_at word 27) * (bit_at word 28 + 1 + bit_at word 26) + (1 - bit_at word 28)

-- the command word with the colour, the vertex, a texcoord if textured (bit 26), and a size if the size code is 0
abbrev pub rectangle_len_of : ℕ → ℕ
rectangle_len_of word = 2 + bit_at word 26 + (if word / 2 ^ 27 % 4 == 0 then 1 else 0)

-- a polyline begins with this word: a line whose bit 27 is set
abbrev pub begins_polyline : ℕ → Bool
begins_polyline word = (class_of word == 2) && is_set word 27

-- a polyline (bit 27), or one line: command word with the colour, vertex, colour if shaded (bit 28), vertex
abbrev pub line_kind_of : ℕ → Kind
line_kind_of word = if is_set word 27 then Polyline (is_set word 28) else Plain (3 + bit_at word 28)

-- all others are one word: all of class 7, and all of class 0 except the fill
abbrev pub kind_of : ℕ → Kind
kind_of word =
    if class_of word == 1 then Plain (polygon_len_of word) else
    (if class_of word == 2 then line_kind_of word else
    (if class_of word == 3 then Plain (rectangle_len_of word) else
    (if class_of word == 4 then Plain 4 else
    (if class_of word == 5 then Load else
    (if class_of word == 6 then Plain 3 else
    Plain (if opcode_of word == 2 then 3 else 1))))))

-- the number of words of the first item
abbrev pub start_len : Kind → ℕ
start_len (Plain len) = len
start_len Load = 3
start_len (Polyline shaded) = if shaded then 4 else 3

abbrev pub first_len_of : ℕ → ℕ
first_len_of word = start_len (kind_of word)

-- the test for the word that ends a polyline
abbrev pub is_end : ℕ → Bool
is_end word = bit_and word 0xf000f000 == 0x50005000
