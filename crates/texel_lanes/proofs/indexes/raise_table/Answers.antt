use Rattle.std.proofs.Common.{◌∷◌, []}
use Rattle.texel_lanes.proofs.NibbleLemmas.{raised}
use Rattle.texel_lanes.proofs.indexes.raise_table.Goals as goal

pub returns-clause-value : goal.returns-clause-value
returns-clause-value c i lt = raised (0 ∷ 0 ∷ 0 ∷ 0 ∷ 0 ∷ 0 ∷ 0 ∷ 0 ∷ 0 ∷ 0 ∷ 0 ∷ 0 ∷ []) i lt
