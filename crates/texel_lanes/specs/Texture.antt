-- A texel as it is in video memory (psx-spx, "GPU Video Memory (VRAM)": texture bitmaps and palettes).
use Rattle.std.specs.Prelude.{ℕ, ◌+◌, ◌<◌, List, if◌then◌else◌, nat_lt}
use Rattle.px_num.specs.declared.shape.Cell.{Cell}
use Rattle.vram_store.specs.Vram.{at}
use Rattle.texture_page.specs.Page.{IsPage, IsWindow, texel_place, clut_place, index_at}
use Rattle.texel_lanes.specs.declared.texture.Texture.{Texture}

-- a texture with a valid page and window
pub record IsTexture (texture : Texture) : Type 0 where
  pub page : IsPage texture.page
  pub window : IsWindow texture.window

-- all rows of the texture page are in video memory of this height
abbrev pub HasPage : (height : ℕ) → Texture → Type 0
HasPage height texture = texture.page.y + 255 < height

abbrev pub at_cell : List ℕ → Cell → ℕ
at_cell m cell = at m cell.x cell.y

-- the texel at column u and row v, with its cell and its CLUT entry as they are in m
unfoldable pub texel : Texture → ℕ → ℕ → List ℕ → ℕ
texel t u v m =
    if nat_lt t.page.depth 2
    then at_cell m (clut_place t.clut (index_at t.page t.window u (at_cell m (texel_place t.page t.window u v))))
    else at_cell m (texel_place t.page t.window u v)

-- the accesses for a texel: its cell, and at depths 0 and 1 the CLUT entry
abbrev pub texel_steps : ℕ → ℕ
texel_steps depth = if nat_lt depth 2 then 2 else 1

-- the row of a CLUT, which is that of its first entry
abbrev pub clut_row : ℕ → ℕ
clut_row clut = (clut_place clut 0).y
