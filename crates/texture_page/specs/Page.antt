-- The cells of a texel and of its CLUT entry (psx-spx, "GPU Rendering Attributes": texpage and clut attributes;
-- "GPU Video Memory (VRAM)": texture bitmaps and palettes; GP0(E2h) "Texture Window setting"). That columns wrap at
-- 1024 is our own rule.
use Rattle.std.specs.Prelude.{ℕ, ◌+◌, ◌-◌, ◌*◌, ◌/◌, ◌%◌, ◌^◌, ◌≤◌, ◌==◌, if◌then◌else◌}
use Rattle.std.specs.Int.RustNames.{bit_and, bit_or}
use Rattle.px_num.specs.declared.shape.Cell.{Cell}
use Rattle.texture_page.specs.declared.page.Page.{Page}
use Rattle.texture_page.specs.declared.page.Window.{Window}

-- a valid page: its first cell and its depth are within their limits
pub record IsPage (page : Page) : Type 0 where
  pub x : page.x ≤ 960
  pub y : page.y ≤ 768
  pub depth : page.depth ≤ 3

-- a valid window: its fields have five bits each
pub record IsWindow (window : Window) : Type 0 where
  pub mask_x : window.mask_x ≤ 31
  pub mask_y : window.mask_y ≤ 31
  pub off_x : window.off_x ≤ 31
  pub off_y : window.off_y ≤ 31

-- a coordinate of eight bits after one direction of the window: the bits of the mask, times 8, are replaced by those
-- of the offset
unfoldable pub windowed : ℕ → ℕ → ℕ → ℕ
windowed mask off u = bit_or (bit_and u (255 - mask * 8)) (bit_and off mask * 8)

-- the column of a texel's cell, counted from the page's first cell: a cell contains four, two or one texels
abbrev pub column : ℕ → ℕ → ℕ
column depth u =
    if depth == 0 then u / 4
    else (if depth == 1 then u / 2
    else u)

-- the cell of the texel at column u and row v
abbrev pub texel_place : Page → Window → ℕ → ℕ → Cell
texel_place page window u v = record {
  x = (page.x + column page.depth (windowed window.mask_x window.off_x u)) % 1024;
  y = page.y + windowed window.mask_y window.off_y v;
}

-- the part of a halfword that is the index of the texel at a windowed column: four bits at depth 0, else eight
abbrev pub index_in : ℕ → ℕ → ℕ → ℕ
index_in depth u h =
    if depth == 0 then h / 2 ^ (4 * (u % 4)) % 16
    else h / 2 ^ (8 * (u % 2)) % 256

abbrev pub index_at : Page → Window → ℕ → ℕ → ℕ
index_at page window u h = index_in page.depth (windowed window.mask_x window.off_x u) h

-- the cell of a CLUT entry: bits 0 to 5 of the attribute are the CLUT's column divided by 16, bits 6 to 14 its
-- row
abbrev pub clut_place : ℕ → ℕ → Cell
clut_place clut index = record { x = (clut % 64 * 16 + index) % 1024; y = clut / 64 % 512 }
