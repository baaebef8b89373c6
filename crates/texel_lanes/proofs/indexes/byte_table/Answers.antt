use Rattle.std.proofs.Common.{◌∷◌, []}
use Rattle.texel_lanes.proofs.NibbleLemmas.{raised_byte}
use Rattle.texel_lanes.proofs.indexes.byte_table.Goals as goal

pub returns-clause-value : goal.returns-clause-value
returns-clause-value c i lt = raised_byte (0 ∷ 0 ∷ 0 ∷ 0 ∷ 0 ∷ 0 ∷ 0 ∷ 0 ∷ 0 ∷ 0 ∷ 0 ∷ 0 ∷ 0 ∷ 0 ∷ []) i lt
