-- The shown picture as PPM (psx-spx, "GPU Display Control Commands (GP1)": start of the display area, display mode).
-- The PPM format and the conversion of 5 bits to 8 are our own rules.
use Rattle.std.specs.Prelude.{ℕ, zero, suc, List, [], ◌∷◌, ◌++◌, ◌+◌, ◌*◌, ◌/◌, ◌%◌, ◌==◌}
use Rattle.std.specs.Prelude.{Option, None, Some, if◌then◌else◌, codes, decimal}
use Rattle.vram_store.specs.Vram.{at, height_of}
use Rattle.gp1_status.specs.Registers.{Registers, bit}
use Rattle.gp1_status.specs.Shape.{shape_of}
use Rattle.picture_out.specs.declared.picture.DisplayArea.{DisplayArea}

-- the part of video memory that is shown: its first cell, the pixels per row, the number of rows, and whether a pixel
-- has 24 bits
abbrev pub display_of : Registers → ℕ × ℕ → DisplayArea
display_of regs shape = record {
  x = regs.start % 1024;
  y = regs.start / 1024;
  width = shape.0;
  lines = shape.1;
  is_deep = bit regs.mode 4 == 1;
}

-- the cell in a column and a row; both wrap at the edges of video memory
abbrev pub shown_cell : List ℕ → (column row : ℕ) → ℕ
shown_cell m column row = at m (column % 1024) (row % height_of m)

-- ---- 15 bits per pixel

-- the 8-bit value of a 5-bit channel
abbrev pub channel_byte : ℕ → ℕ
channel_byte c = 8 * c + c / 4

-- red is in bits 0 to 4, green in bits 5 to 9, blue in bits 10 to 14
abbrev pub color_bytes : ℕ → List ℕ
color_bytes cell = channel_byte (cell % 32) ∷ channel_byte (cell / 32 % 32) ∷ channel_byte (cell / 1024 % 32) ∷ []

-- ---- 24 bits per pixel

-- a byte of a row, counted from a column: byte b is in cell b / 2, in its low half if b is even
abbrev pub row_byte : List ℕ → (column row b : ℕ) → ℕ
row_byte m column row b =
    let cell = shown_cell m (column + b / 2) row in
    if b % 2 == 0 then cell % 256 else cell / 256

-- three contiguous bytes: red, green, blue
abbrev pub deep_bytes : List ℕ → (column row i : ℕ) → List ℕ
deep_bytes m column row i =
    row_byte m column row (3 * i) ∷ row_byte m column row (3 * i + 1) ∷ row_byte m column row (3 * i + 2) ∷ []

-- ---- the picture

-- pixel i of a row of video memory
abbrev pub row_pixel : List ℕ → DisplayArea → (row i : ℕ) → List ℕ
row_pixel m shown row i =
    if shown.is_deep then deep_bytes m shown.x row i
    else color_bytes (shown_cell m (shown.x + i) row)

-- pixel i of row j
abbrev pub pixel_bytes : List ℕ → DisplayArea → (i j : ℕ) → List ℕ
pixel_bytes m shown i j = row_pixel m shown (shown.y + j) i

-- pixels are numbered row by row: pixel number k is in row k / width
unfoldable pub numbered_pixel : List ℕ → DisplayArea → (k : ℕ) → List ℕ
numbered_pixel m shown k = pixel_bytes m shown (k % shown.width) (k / shown.width)

-- n pixels from number `first` on
abbrev pub pixels_from : List ℕ → DisplayArea → (first n : ℕ) → List ℕ
pixels_from m shown first zero = []
pixels_from m shown first (suc n) = pixels_from m shown first n ++ numbered_pixel m shown (first + n)

-- the header: the format, the width and the height, and the greatest value of a channel
unfoldable pub picture_head : DisplayArea → List ℕ
picture_head shown = codes "P6\n" ++ (decimal shown.width ++ (codes " " ++ (decimal shown.lines ++ codes "\n255\n")))

-- the number of pixels
abbrev pub pixel_count : DisplayArea → ℕ
pixel_count shown = shown.width * shown.lines

-- the file: the header, and all pixels from the top row on
unfoldable pub picture_of : List ℕ → DisplayArea → List ℕ
picture_of m shown = picture_head shown ++ pixels_from m shown 0 (pixel_count shown)

-- no bytes if the picture has no pixel
abbrev pub picture_by_shape : List ℕ → Registers → Option (ℕ × ℕ) → List ℕ
picture_by_shape m regs None = []
picture_by_shape m regs (Some shape) = picture_of m (display_of regs shape)

abbrev pub picture : List ℕ → Registers → List ℕ
picture m regs = picture_by_shape m regs (shape_of regs)

-- ---- the store steps

-- the number of cells that a pixel is read from
unfoldable pub cells_of_pixel : DisplayArea → ℕ
cells_of_pixel shown = if shown.is_deep then 2 else 1

abbrev pub cost_by_shape : Registers → Option (ℕ × ℕ) → ℕ
cost_by_shape regs None = 0
cost_by_shape regs (Some shape) = let shown = display_of regs shape in pixel_count shown * cells_of_pixel shown

abbrev pub picture_cost : Registers → ℕ
picture_cost regs = cost_by_shape regs (shape_of regs)
