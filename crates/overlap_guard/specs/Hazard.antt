-- When a chunk reads a cell that it writes itself (our own rule: every pixel reads video memory as it is when that
-- pixel is drawn).
-- A chunk is n cells of one row. Its lane i writes the cell i columns to the right of the target.
use Rattle.std.specs.Prelude.{ℕ, ◌+◌, ◌%◌, ◌<◌, ◌≡◌, ◌⊎◌, List, length, slice_index_or, Option, None, Some, Bool, false}
use Rattle.std.specs.Prelude.{◌&&◌, ◌||◌, ◌==◌}
use Rattle.std.specs.Option.{MatchOption}
use Rattle.std.specs.List.{list_any, range_with_len}
use Rattle.px_num.specs.declared.shape.Cell.{Cell}
use Rattle.px_num.specs.declared.shape.Strip.{Strip}

-- lane i writes this cell
abbrev pub Writes : Cell → ℕ → ℕ → ℕ → Type 0
Writes target i x y = (x ≡ target.x + i) × (y ≡ target.y)

-- one of the lanes before lane j writes this cell
abbrev pub WrittenBefore : Cell → ℕ → Cell → Type 0
WrittenBefore target j cell = (i : ℕ) × (i < j) × Writes target i cell.x cell.y

-- the cell j columns to the right, in the same row
abbrev pub cell_right : Cell → ℕ → Cell
cell_right cell j = record { x = cell.x + j; y = cell.y }

-- copies: some lane reads a source cell that an earlier lane writes
abbrev pub HasCopyHazard : Cell → Cell → ℕ → Type 0
HasCopyHazard source target n = (j : ℕ) × (j < n) × WrittenBefore target j (cell_right source j)

-- member j of a list of cells
abbrev pub cell_at : List Cell → ℕ → Cell
cell_at cells j = slice_index_or cells j (record { x = 0; y = 0 })

-- some lane reads as its texel a cell that an earlier lane writes
abbrev pub HasTexelHazard : List Cell → Cell → Type 0
HasTexelHazard texels target = (j : ℕ) × (j < length texels) × WrittenBefore target j (cell_at texels j)

-- cell k of a strip, which wraps at 1024 columns
abbrev pub strip_cell : Strip → ℕ → Cell
strip_cell strip k = record { x = (strip.x + k) % 1024; y = strip.y }

-- the strip has a cell that some lane writes
abbrev pub HasStripHazard : Strip → Cell → ℕ → Type 0
HasStripHazard strip target n = (k : ℕ) × (k < strip.n) × WrittenBefore target n (strip_cell strip k)

-- textured chunks: a hazard of a texel or, if there is a CLUT, of the CLUT
abbrev pub HasTextureHazard : List Cell → Option Strip → Cell → ℕ → Type 0
HasTextureHazard texels clut target n = HasTexelHazard texels target ⊎ MatchOption clut ⊥
    (λ strip. HasStripHazard strip target n)

-- ---- the same as computable tests, pair by pair

abbrev pub some_below : ℕ → (ℕ → Bool) → Bool
some_below n test = list_any test (range_with_len 0 n)

abbrev pub is_written_before : Cell → ℕ → Cell → Bool
is_written_before target j cell = some_below j (λ i. (cell.x == target.x + i) && (cell.y == target.y))

unfoldable pub has_copy_hazard : Cell → Cell → ℕ → Bool
has_copy_hazard source target n = some_below n (λ j. is_written_before target j (cell_right source j))

unfoldable pub has_texel_hazard : List Cell → Cell → Bool
has_texel_hazard texels target = some_below (length texels) (λ j. is_written_before target j (cell_at texels j))

unfoldable pub has_strip_hazard : Strip → Cell → ℕ → Bool
has_strip_hazard strip target n = some_below strip.n (λ k. is_written_before target n (strip_cell strip k))

abbrev pub has_clut_hazard : Option Strip → Cell → ℕ → Bool
has_clut_hazard None target n = false
has_clut_hazard (Some strip) target n = has_strip_hazard strip target n

abbrev pub has_texture_hazard : List Cell → Option Strip → Cell → ℕ → Bool
has_texture_hazard texels clut target n = has_texel_hazard texels target || has_clut_hazard clut target n
