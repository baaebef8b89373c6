use Rattle.gpu_core.proofs.BoxCosts.{no_cell-decides}
use Rattle.gpu_core.proofs.laws.cells_cost_nothing.Goals as goal

pub returns : goal.returns
returns c = no_cell-decides
