-- The packet of an item (psx-spx, "GPU Render Polygon Commands", "GPU Render Line Commands", "GPU Render Rectangle
-- Commands", "GPU Rendering Attributes", "GPU Memory Transfer Commands").
use Rattle.std.specs.Prelude.{ℕ, ◌+◌, ◌-◌, ◌*◌, ◌/◌, ◌%◌, ◌^◌, nat_le, ◌==◌, ◌&&◌}
use Rattle.std.specs.Prelude.{List, Bool, if◌then◌else◌, length, slice_index}
use Rattle.std.specs.Int.{bit_at}
use Rattle.gp0_words.specs.Kinds.{is_set, class_of, opcode_of, first_len_of}
use Rattle.gp0_words.specs.declared.item.Item.{Item}
use Rattle.gp0_words.specs.declared.item.Item.TheVariants as item
use Rattle.px_num.specs.declared.shape.Vertex.{Vertex}
use Rattle.gp0_words.specs.Sizes.{width_of, height_of}
use Rattle.gp0_packets.specs.Fields.{low_24, high_half, vertex_of, cell_of, fill_color_of}
use Rattle.gp0_packets.specs.declared.packet.Packet.{Packet}
use Rattle.gp0_packets.specs.declared.packet.Packet.TheVariants as packet

-- The packets are `unfoldable`, so that proofs that state nothing of their fields do not expand them.

-- ---- polygons: bits 28 shaded, 27 four vertices, 26 textured, 25 semi-transparent, 24 raw texture

-- the number of words of a vertex: a colour if shaded, the vertex, and a texcoord if textured
abbrev pub stride_of : ℕ → ℕ
stride_of command = bit_at command 28 + 1 + bit_at command 26

-- Vertex i. Its vertex word is at i strides + 1, and its texcoord word follows. If shaded, its colour word is at i
-- strides; the command word contains the first colour.
abbrev pub corner_of : List ℕ → ℕ → Vertex
corner_of words i =
    let command = slice_index words 0 in
    let first = i * stride_of command in
    vertex_of (slice_index words (first + 1))
    (if is_set command 28 then slice_index words first else command)
    (if is_set command 26 then slice_index words (first + 2) else 0)

-- the attribute of vertex i's texcoord, and 0 if there is none
abbrev pub attribute_of : List ℕ → ℕ → ℕ
attribute_of words i =
    let command = slice_index words 0 in
    if is_set command 26 then high_half (slice_index words (i * stride_of command + 2)) else 0

-- the CLUT is in the first texcoord and the page in the second
unfoldable pub polygon_of : List ℕ → Packet
polygon_of words =
    let command = slice_index words 0 in
    let four = is_set command 27 in
    let textured = is_set command 26 in
    packet.Poly four (corner_of words 0) (corner_of words 1) (corner_of words 2)
    (corner_of words (if four then 3 else 2))
    (is_set command 28) textured (is_set command 25) (is_set command 24 && textured)
    (attribute_of words 0) (attribute_of words 1)

-- ---- lines: bits 28 shaded, 25 semi-transparent

abbrev pub segment_of : (command from_color from_vertex to_color to_vertex : ℕ) → Packet
segment_of command from_color from_vertex to_color to_vertex =
    packet.Segment (vertex_of from_vertex from_color 0) (vertex_of to_vertex to_color 0) (is_set command 25)

-- a line, or the first segment of a polyline: colour, vertex, colour if shaded, vertex
unfoldable pub line_of : List ℕ → Packet
line_of words =
    let command = slice_index words 0 in
    if is_set command 28
    then segment_of command command (slice_index words 1) (slice_index words 2) (slice_index words 3)
    else segment_of command command (slice_index words 1) command (slice_index words 2)

-- ---- rectangles: bits 28-27 size, 26 textured, 25 semi-transparent, 24 raw texture

abbrev pub size_code_of : List ℕ → ℕ
size_code_of words = slice_index words 0 / 2 ^ 27 % 4

-- the size word if the size code is 0, after the texcoord word if there is one
abbrev pub size_word_of : List ℕ → ℕ
size_word_of words = if size_code_of words == 0 then slice_index words (2 + bit_at (slice_index words 0) 26) else 0

-- a side in cells, by the size code; for code 0 it is in the size word
abbrev pub side_of : (code own : ℕ) → ℕ
side_of code own = if code == 0 then own else (if code == 1 then 1 else (if code == 2 then 8 else 16))

-- the command word has the colour; the first cell follows, then a texcoord with the CLUT if textured
unfoldable pub rectangle_of : List ℕ → Packet
rectangle_of words =
    let command = slice_index words 0 in
    let textured = is_set command 26 in
    let texcoord = if textured then slice_index words 2 else 0 in
    let first = vertex_of (slice_index words 1) command texcoord in
    packet.Rect first.x first.y
    (side_of (size_code_of words) (size_word_of words % 2 ^ 10))
    (side_of (size_code_of words) (high_half (size_word_of words) % 2 ^ 9))
    first.color textured (is_set command 25) (is_set command 24 && textured) first.u first.v (high_half texcoord)

-- ---- transfers

-- X and 3F0h; width ((SW and 3FFh) + 0Fh) and not 0Fh; height SH and 1FFh
unfoldable pub fill_of : (height : ℕ) → List ℕ → Packet
fill_of height words =
    let corner = slice_index words 1 in
    let size = slice_index words 2 in
    packet.Fill (fill_color_of (slice_index words 0)) (corner % 1024 / 16 * 16) (high_half corner % height)
    ((size % 2 ^ 10 + 15) / 16 * 16) (high_half size % 2 ^ 9)

unfoldable pub copy_of : (height : ℕ) → List ℕ → Packet
copy_of height words =
    packet.Copy (cell_of height (slice_index words 1)) (cell_of height (slice_index words 2))
    (width_of (slice_index words 3)) (height_of (slice_index words 3))

unfoldable pub load_of : (height : ℕ) → List ℕ → Packet
load_of height words =
    let target = cell_of height (slice_index words 1) in
    packet.Load target.x target.y (width_of (slice_index words 2)) (height_of (slice_index words 2))

unfoldable pub store_of : (height : ℕ) → List ℕ → Packet
store_of height words =
    let source = cell_of height (slice_index words 1) in
    packet.Store source.x source.y (width_of (slice_index words 2)) (height_of (slice_index words 2))

-- ---- all others

-- E1h to E6h set a register; the others of class 7 have no effect (our own rule)
abbrev pub sets_register : (opcode : ℕ) → Bool
sets_register opcode = nat_le 0xe1 opcode && nat_le opcode 0xe6

unfoldable pub environment_of : ℕ → Packet
environment_of word =
    if sets_register (opcode_of word) then packet.Env (opcode_of word - 0xe0) (low_24 word) else packet.Nop

-- 02h is a fill and 1Fh an interrupt; the others of class 0 have no effect
unfoldable pub other_of : (height : ℕ) → List ℕ → Packet
other_of height words =
    if opcode_of (slice_index words 0) == 0x02 then fill_of height words else
    (if opcode_of (slice_index words 0) == 0x1f then packet.Irq else packet.Nop)

-- a whole item, by the class of its first word
unfoldable pub whole_of : (height : ℕ) → List ℕ → Packet
whole_of height words =
    let class = class_of (slice_index words 0) in
    if class == 1 then polygon_of words else
    (if class == 2 then line_of words else
    (if class == 3 then rectangle_of words else
    (if class == 4 then copy_of height words else
    (if class == 5 then load_of height words else
    (if class == 6 then store_of height words else
    (if class == 7 then environment_of (slice_index words 0) else other_of height words))))))

-- The packet of an item at a height of video memory. A whole item without words, or whose number of words does not
-- match its first word, has no effect.
abbrev pub packet_of : (height : ℕ) → Item → Packet
packet_of height (item.Whole words) =
    if length words == 0 then packet.Nop else
    (if length words == first_len_of (slice_index words 0) then whole_of height words else packet.Nop)
packet_of height (item.Joint command from_color from_vertex to_color to_vertex) =
    segment_of command from_color from_vertex to_color to_vertex
packet_of height (item.Finish word) = packet.Finish
packet_of height (item.Pixels word) = packet.Pixels word
