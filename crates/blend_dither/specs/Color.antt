-- Colours of pixels (psx-spx, "GPU Rendering Attributes": dithering, texture blending, semi-transparency; the exact
-- integers of modulation and of blending are our own rule).
-- A colour has red in bits 0 to 7, green in 8 to 15 and blue in 16 to 23. A halfword has red in bits 0 to 4, green in
-- 5 to 9, blue in 10 to 14 and the mask bit in 15.
use Rattle.std.specs.Prelude.{ℕ, suc, ◌+◌, ◌-◌, ◌*◌, ◌/◌, ◌%◌, ◌^◌, min, Bool, if◌then◌else◌, ◌||◌, ◌==◌, ℤ, pos}
use Rattle.std.specs.Prelude.{negsuc, ◌≤ℤ◌, List, [], ◌∷◌, slice_index_or}

-- the dither offsets of four rows of four cells, row by row
abbrev pub dither_offsets : List ℤ
dither_offsets =
    negsuc 3 ∷ pos 0 ∷ negsuc 2 ∷ pos 1
    ∷ pos 2 ∷ negsuc 1 ∷ pos 3 ∷ negsuc 0
    ∷ negsuc 2 ∷ pos 1 ∷ negsuc 3 ∷ pos 0
    ∷ pos 3 ∷ negsuc 0 ∷ pos 2 ∷ negsuc 1 ∷ []

-- the dither offset of the cell (x, y)
abbrev pub dither_offset : ℕ → ℕ → ℤ
dither_offset x y = slice_index_or dither_offsets (4 * (y % 4) + x % 4) (pos 0)

-- a dither offset is from -4 to 3
abbrev pub IsShift : ℤ → Type 0
IsShift s = (negsuc 3 ≤ℤ s) × (s ≤ℤ pos 3)

-- ---- channels

-- the channels of a colour
abbrev pub red_of : ℕ → ℕ
red_of color = color % 256

abbrev pub green_of : ℕ → ℕ
green_of color = color / 256 % 256

abbrev pub blue_of : ℕ → ℕ
blue_of color = color / 65536 % 256

-- the channels of a halfword; bit 15 belongs to none
abbrev pub red5_of : ℕ → ℕ
red5_of h = h % 32

abbrev pub green5_of : ℕ → ℕ
green5_of h = h / 32 % 32

abbrev pub blue5_of : ℕ → ℕ
blue5_of h = h / 1024 % 32

-- three channels of five bits in one halfword
abbrev pub packed : ℕ → ℕ → ℕ → ℕ
packed r g b = r + 32 * g + 1024 * b

-- a channel of eight bits plus an offset, clamped to 0 to 255
abbrev pub shifted_channel : ℕ → ℤ → ℕ
shifted_channel c (pos s) = min (c + s) 255
shifted_channel c (negsuc s) = min (c - suc s) 255

-- ---- reduction to five bits

-- a channel of eight bits, reduced to five bits with dither
abbrev pub tone_channel : ℕ → ℤ → ℕ
tone_channel c s = shifted_channel c s / 8

-- three channels of eight bits, reduced to five bits with dither and packed
abbrev pub tone_of : ℕ → ℕ → ℕ → ℤ → ℕ
tone_of r g b s = packed (tone_channel r s) (tone_channel g s) (tone_channel b s)

-- ---- modulation

-- a texel's channel modulated by a colour's channel, of which 128 leaves it unchanged: the dither offset is added
-- before the last division
abbrev pub modulated_channel : ℕ → ℕ → ℤ → ℕ
modulated_channel t c s = shifted_channel (8 * t * c / 128) s / 8

-- a texel modulated by three channels of eight bits
abbrev pub modulated_of : ℕ → ℕ → ℕ → ℕ → ℤ → ℕ
modulated_of t r g b s =
    packed (modulated_channel (red5_of t) r s) (modulated_channel (green5_of t) g s)
    (modulated_channel (blue5_of t) b s)

-- ---- blending

-- the channel f of a pixel blended with the channel b of a cell, by blending mode
abbrev pub blended_channel : ℕ → ℕ → ℕ → ℕ
blended_channel mode b f =
    if mode == 0 then (b + f) / 2
    else (if mode == 1 then min (b + f) 31
    else (if mode == 2 then b - f
    else min (b + f / 4) 31))

-- a pixel f blended with a cell b
abbrev pub blended_of : ℕ → ℕ → ℕ → ℕ
blended_of mode b f =
    packed (blended_channel mode (red5_of b) (red5_of f)) (blended_channel mode (green5_of b) (green5_of f))
    (blended_channel mode (blue5_of b) (blue5_of f))

-- ---- packing

-- bits 0 to 14 of a colour, with bit 15 set if one of the two arguments is true
abbrev pub packed_pixel : ℕ → Bool → Bool → ℕ
packed_pixel color high forced = color % 2 ^ 15 + (if high || forced then 2 ^ 15 else 0)
