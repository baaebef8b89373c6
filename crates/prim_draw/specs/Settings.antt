-- How the registers determine what a packet draws (psx-spx, "GPU Rendering Attributes"; that sums with the offset are
-- not wrapped is our own rule).
use Rattle.std.specs.Prelude.{ℕ, ◌+ℤ◌, ◌&&◌, Bool}
use Rattle.px_num.specs.declared.shape.Vertex.{Vertex}
use Rattle.gp1_status.specs.Drawing.{blend_mode, dithers, offset_x, offset_y, page_in, window_in}
use Rattle.gp1_status.specs.Registers.{Registers}
use Rattle.span_lanes.specs.declared.span.Brush.{Brush}
use Rattle.texel_lanes.specs.declared.texture.Texture.{Texture}

-- a vertex with the drawing offset added
unfoldable pub placed : Registers → Vertex → Vertex
placed r p = record { x = p.x +ℤ offset_x r; y = p.y +ℤ offset_y r; color = p.color; u = p.u; v = p.v }

-- the texture page with a packet's CLUT
unfoldable pub texture_in : Registers → ℕ → Bool → Texture
texture_in r clut raw = record { page = page_in r; window = window_in r; clut = clut; raw = raw }

-- the brush of a packet: mask setting, blending mode, and whether it is dithered, which needs both the packet and the
-- draw mode
unfoldable pub brush_in : Registers → Bool → Bool → Brush
brush_in r semi may_dither =
    record { mask = r.mask; mode = blend_mode r; semi = semi; dither = may_dither && dithers r }
