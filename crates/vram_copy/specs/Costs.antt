-- The store steps of fills and copies (our own rule).
use Rattle.std.specs.Prelude.{ℕ, Bool, ◌+◌, ◌-◌, ◌*◌, ◌/◌, ◌%◌, ◌==◌, if◌then◌else◌, min}
use Rattle.px_num.specs.Fold.{each_below}
use Rattle.px_num.specs.declared.shape.Cell.{Cell}
use Rattle.overlap_guard.specs.Hazard.{has_copy_hazard}
use Rattle.vram_copy.specs.Rect.{right, down}

-- a fill writes sixteen cells at a time
abbrev pub fill_cost : ℕ → ℕ → ℕ
fill_cost w h = w / 16 * h

-- ---- copies: a row is cut at the columns at which source or target wraps; each piece is cut, from its left, into
-- chunks
-- of sixteen cells and a last, shorter one

-- the distance of cell i of a row from the last cut: the row's first cell, or a cell at which a side is in column 0
abbrev pub since_cut : Cell → Cell → ℕ → ℕ
since_cut source target i = min i (min (right source i).x (right target i).x)

-- cell i begins a chunk
unfoldable pub begins_chunk : Cell → Cell → ℕ → Bool
begins_chunk source target i = since_cut source target i % 16 == 0

-- the length of a chunk that begins at these two columns, if `left` cells of the row are left
abbrev pub chunk_len : ℕ → ℕ → ℕ → ℕ
chunk_len source_x target_x left = min (min 16 left) (min (1024 - source_x) (1024 - target_x))

-- the length of the chunk that begins at cell i of a row of w
abbrev pub chunk_at : Cell → Cell → ℕ → ℕ → ℕ
chunk_at source target w i = chunk_len (right source i).x (right target i).x (w - i)

-- a chunk costs two loads and a store; with a hazard, two reads and a write for each cell
unfoldable pub chunk_cost : Cell → Cell → ℕ → ℕ
chunk_cost source target n = if has_copy_hazard source target n then 3 * n else 3

-- the length of a piece that begins at these two columns, if `left` cells of the row are left
abbrev pub piece_len : ℕ → ℕ → ℕ → ℕ
piece_len source_x target_x left = min left (min (1024 - source_x) (1024 - target_x))

-- the cost of a piece: its whole chunks cost the same, as the distance of source and target does not change
abbrev pub piece_cost : Cell → Cell → ℕ → ℕ
piece_cost source target n =
    n / 16 * chunk_cost source target 16 + (if n % 16 == 0 then 0 else chunk_cost source target (n % 16))

-- the cost of the chunk that begins at cell i, or 0 if none does
abbrev pub cell_cost : Cell → Cell → ℕ → ℕ → ℕ
cell_cost source target w i =
    if begins_chunk source target i
    then chunk_cost (right source i) (right target i) (chunk_at source target w i) else 0

-- the cost of the chunks that begin at the first n cells of a row of w cells
abbrev pub cost_below : Cell → Cell → ℕ → ℕ → ℕ
cost_below source target w n = each_below (λ i sum. sum + cell_cost source target w i) n 0

-- the cost of a row of w cells
unfoldable pub row_cost : Cell → Cell → ℕ → ℕ
row_cost source target w = cost_below source target w w

-- the cost of h rows
abbrev pub rows_cost : ℕ → Cell → Cell → ℕ → ℕ → ℕ
rows_cost height source target w h =
    each_below (λ j sum. sum + row_cost (down height source j) (down height target j) w) h 0

-- the cost of a rectangle
unfoldable pub copy_cost : ℕ → Cell → Cell → ℕ → ℕ → ℕ
copy_cost height source target w h = rows_cost height source target w h
