-- The texel cells that a chunk reads, lane by lane.
use Rattle.std.specs.Prelude.{ℕ, List, map, slice_index}
use Rattle.std.specs.List.{range_with_len}
use Rattle.px_num.specs.declared.shape.Cell.{Cell}

-- the cells of the first n lanes, from their columns and rows
unfoldable pub lane_cells : (xs ys : List ℕ) → (n : ℕ) → List Cell
lane_cells xs ys n = map (λ j. record { x = slice_index xs j; y = slice_index ys j }) (range_with_len 0 n)
