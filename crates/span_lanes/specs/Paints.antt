-- Paints, and their colour and texel at a cell.
use Rattle.std.specs.Prelude.{ℕ, ◌+◌}
use Rattle.span_lanes.specs.declared.span.Chunk.{Chunk}
use Rattle.span_lanes.specs.declared.rows.texel_rows.TexelRow.{TexelRow}
use Rattle.span_lanes.specs.declared.span.Paint.{Paint}
use Rattle.span_lanes.specs.declared.span.Paint.TheVariants.{Flat, Shaded, TexturedTri, TexturedRow}
use Rattle.span_lanes.specs.Shade.{row_u, attribute_in, color_in}

-- the paint of a row of texels
abbrev pub row_paint : TexelRow → Paint
row_paint row = TexturedRow row.color row.texture row.u row.v row.flip

-- the colour of a paint at (x, y)
abbrev pub paint_color : Paint → ℕ → ℕ → ℕ
paint_color (Flat color) x y = color
paint_color (Shaded tri) x y = color_in tri x y
paint_color (TexturedTri tri texture) x y = color_in tri x y
paint_color (TexturedRow color texture u v flip) x y = color

-- the column of a paint's texel at (x, y), which is cell i of a row; 0 without a texture
abbrev pub paint_u : Paint → ℕ → ℕ → ℕ → ℕ
paint_u (Flat color) x y i = 0
paint_u (Shaded tri) x y i = 0
paint_u (TexturedTri tri texture) x y i = attribute_in tri 3 x y
paint_u (TexturedRow color texture u v flip) x y i = row_u u flip i

-- the row of a paint's texel
abbrev pub paint_v : Paint → ℕ → ℕ → ℕ → ℕ
paint_v (Flat color) x y i = 0
paint_v (Shaded tri) x y i = 0
paint_v (TexturedTri tri texture) x y i = attribute_in tri 4 x y
paint_v (TexturedRow color texture u v flip) x y i = v

-- the column and row of the texel of cell j of a chunk
abbrev pub chunk_u : Chunk → ℕ → ℕ
chunk_u p j = paint_u p.span.now.paint (p.span.now.x + p.first + j) p.span.now.y (p.first + j)

abbrev pub chunk_v : Chunk → ℕ → ℕ
chunk_v p j = paint_v p.span.now.paint (p.span.now.x + p.first + j) p.span.now.y (p.first + j)
