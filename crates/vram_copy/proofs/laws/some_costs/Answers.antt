use Rattle.vram_copy.proofs.CutLemmas.{copy_most, apart_cost, left_cost}
use Rattle.vram_copy.proofs.laws.some_costs.Goals as goal

pub returns-clause-one_right : goal.returns-clause-one_right
returns-clause-one_right c = copy_most 512 (record { x = 0; y = 0 }) (record { x = 1; y = 0 }) 16 1

pub returns-clause-apart : goal.returns-clause-apart
returns-clause-apart c = apart_cost

pub returns-clause-one_left : goal.returns-clause-one_left
returns-clause-one_left c = left_cost

pub returns-clause-whole : goal.returns-clause-whole
returns-clause-whole c = copy_most 512 (record { x = 0; y = 0 }) (record { x = 1; y = 0 }) 1024 512
