-- Sixteen halfwords, split into low and high bytes.
use Rattle.std.specs.Prelude.{ℕ, ◌+◌, ◌*◌, List, map, slice_index}
use Rattle.std.specs.List.{range_with_len}
use Rattle.px_num.specs.Lanes.{AreBytes}
use Rattle.texel_lanes.specs.declared.clut.Table.{Table}

-- both fields are sixteen bytes
pub record IsTable (table : Table) : Type 0 where
  pub low : AreBytes table.low
  pub high : AreBytes table.high

-- halfword i
abbrev pub entry_at : Table → ℕ → ℕ
entry_at table i = slice_index table.low i + 256 * slice_index table.high i

-- all sixteen halfwords
unfoldable pub entries_in : Table → List ℕ
entries_in table = map (entry_at table) (range_with_len 0 16)
