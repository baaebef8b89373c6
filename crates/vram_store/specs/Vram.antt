-- Video memory as the list of its cells, row by row (psx-spx, "GPU Video Memory (VRAM)").
use Rattle.std.specs.Prelude.{◌≡◌, ◌≢◌, ◌<◌, ◌≤◌, ◌/◌, ◌%◌, ◌^◌, ◌⊎◌, ℕ, List, ◌++◌, ◌+◌, ◌-◌, ◌*◌, length, slice_index}
use Rattle.std.specs.Prelude.{slice_set}
use Rattle.px_num.specs.Height.{short_height, tall_height}
use Rattle.px_num.specs.Zeros.{zeros}

-- the number of rows of 1024 cells
abbrev pub height_of : List ℕ → ℕ
height_of m = length m / 1024

-- the cell at column x and row y
abbrev pub at : List ℕ → ℕ → ℕ → ℕ
at m x y = slice_index m (1024 * y + x)

-- the cells after h is written to column x and row y
abbrev pub set : List ℕ → ℕ → ℕ → ℕ → List ℕ
set m x y h = slice_set m (1024 * y + x) h

-- video memory at the start (our own rule: every cell is 0)
unfoldable pub blank : List ℕ
blank = zeros (1024 * short_height)

-- the cells of 0 that extend m to this number of rows; no proof computes them
abbrev pub rows_behind : (height : ℕ) → List ℕ → List ℕ
rows_behind height m = zeros (1024 * height - length m)

-- the tall profile (our own rule): rows of 0 follow those of the console, and no cell changes
unfoldable pub tall : List ℕ → List ℕ
tall m = m ++ rows_behind tall_height m

-- sixteen lanes: the n cells from index start on, then 0
pub record IsLoaded (m : List ℕ) (start n : ℕ) (lanes : List ℕ) : Type 0 where
  pub count : length lanes ≡ 16
  pub in_cells : start + n ≤ length m
  pub cells : (j : ℕ) → j < n → slice_index lanes j ≡ slice_index m (start + j)
  pub others : (j : ℕ) → n ≤ j → slice_index lanes j ≡ 0

-- bit j of a number
abbrev pub bit : ℕ → ℕ → ℕ
bit number j = number / 2 ^ j % 2

-- lanes to be written: the first n of them whose bit is 1
pub record Lanes : Type 0 where
  pub n : ℕ
  pub lanes : List ℕ
  pub bits : ℕ

-- each of the n cells from index start on has its lane's value if the lane's bit is 1; all other cells are unchanged
pub record IsStored (old : List ℕ) (start : ℕ) (of : Lanes) (new : List ℕ) : Type 0 where
  pub count : length new ≡ length old
  pub in_cells : start + of.n ≤ length old
  pub written : (j : ℕ) → j < of.n → bit of.bits j ≡ 1 → slice_index new (start + j) ≡ slice_index of.lanes j
  pub masked : (j : ℕ) → j < of.n → bit of.bits j ≢ 1 → slice_index new (start + j) ≡ slice_index old (start + j)
  pub others : (k : ℕ) → (k < start) ⊎ (start + of.n ≤ k) → slice_index new k ≡ slice_index old k

-- the n cells from index start on have the values of the first lanes; all other cells are unchanged
pub record IsPut (old : List ℕ) (start n : ℕ) (lanes new : List ℕ) : Type 0 where
  pub count : length new ≡ length old
  pub written : (j : ℕ) → j < n → slice_index new (start + j) ≡ slice_index lanes j
  pub others : (k : ℕ) → (k < start) ⊎ (start + n ≤ k) → slice_index new k ≡ slice_index old k
