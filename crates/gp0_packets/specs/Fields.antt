-- Fields of words (psx-spx, "GPU Render Commands" on vertices and texcoords, "GPU Memory Transfer Commands" on
-- corners).
use Rattle.std.specs.Prelude.{ℕ, ◌+◌, ◌*◌, ◌/◌, ◌%◌, ◌^◌}
use Rattle.px_num.specs.Number.{signed_11}
use Rattle.px_num.specs.declared.shape.Cell.{Cell}
use Rattle.px_num.specs.declared.shape.Vertex.{Vertex}

-- a colour, or the value of a register
abbrev pub low_24 : ℕ → ℕ
low_24 word = word % 2 ^ 24

-- the Y of a vertex or corner, the height of a size, the attribute of a texcoord
abbrev pub high_half : ℕ → ℕ
high_half word = word / 2 ^ 16

-- X is signed in bits 0-10 and Y in 16-26; a texcoord has U in bits 0-7 and V in 8-15
abbrev pub vertex_of : (place color texcoord : ℕ) → Vertex
vertex_of place color texcoord = record {
  x = signed_11 place;
  y = signed_11 (high_half place);
  color = low_24 color;
  u = texcoord % 2 ^ 8;
  v = texcoord / 2 ^ 8 % 2 ^ 8;
}

-- a corner of a copy, load or store; Y wraps at the height of video memory
abbrev pub cell_of : (height corner : ℕ) → Cell
cell_of height corner = record { x = corner % 1024; y = high_half corner % height }

-- a fill's colour: red, green and blue, each divided by 8
abbrev pub fill_color_of : ℕ → ℕ
fill_color_of word = word / 2 ^ 3 % 32 + word / 2 ^ 11 % 32 * 2 ^ 5 + word / 2 ^ 19 % 32 * 2 ^ 10
