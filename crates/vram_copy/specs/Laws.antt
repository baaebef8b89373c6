-- Bounds of the costs of copies and fills, and how a copied row is cut.
use Rattle.std.specs.Prelude.{ℕ, ◌≡◌, ◌≤◌, ◌<◌, ◌+◌, ◌-◌, ◌*◌, ◌⊎◌, true, false}
use Rattle.px_num.specs.declared.shape.Cell.{Cell}
use Rattle.vram_copy.specs.Rect.{right}
use Rattle.vram_copy.specs.Costs.{since_cut, begins_chunk, chunk_at, copy_cost, fill_cost}

-- a row is cut at its first cell, and at the cells at which source or target is in column 0
abbrev pub IsCut : Cell → Cell → ℕ → Type 0
IsCut source target i = (i ≡ 0) ⊎ ((right source i).x ≡ 0) ⊎ ((right target i).x ≡ 0)

-- since_cut is the distance from the last cut: there is a cut that many cells before, and none between
abbrev pub LastCutLaw : Type 0
LastCutLaw =
    (source target : Cell) (i : ℕ)
    → IsCut source target (i - since_cut source target i)
    × ((k : ℕ) → i - since_cut source target i < k → k ≤ i → ¬ (IsCut source target k))

-- a chunk has 1 to 16 cells; after its first no cell begins a chunk or is a cut; the cell after its last, if the row
-- has one, begins the next chunk
pub record IsChunk (source target : Cell) (w i n : ℕ) : Type 0 where
  pub some : 1 ≤ n
  pub most : n ≤ 16
  pub in_row : i + n ≤ w
  pub inside : (k : ℕ) → 0 < k → k < n → begins_chunk source target (i + k) ≡ false
  pub uncut : (k : ℕ) → 0 < k → k < n → ¬ (IsCut source target (i + k))
  pub next : i + n < w → begins_chunk source target (i + n) ≡ true

-- a row consists of chunks: its first cell begins one, and each is followed by the next
abbrev pub ChunksLaw : Type 0
ChunksLaw =
    (source target : Cell) (w : ℕ)
    → (begins_chunk source target 0 ≡ true)
    × ((i : ℕ) → i < w → begins_chunk source target i ≡ true → IsChunk source target w i (chunk_at source target w i))

-- a copy costs at most three steps per cell, and so at most four
abbrev pub CopyCostLaw : Type 0
CopyCostLaw =
    (height : ℕ) (source target : Cell) (w h : ℕ)
    → (copy_cost height source target w h ≤ 3 * w * h) × (copy_cost height source target w h ≤ 4 * w * h)

-- a fill costs at most four steps per cell
abbrev pub FillCostLaw : Type 0
FillCostLaw = (w h : ℕ) → fill_cost w h ≤ 4 * w * h
