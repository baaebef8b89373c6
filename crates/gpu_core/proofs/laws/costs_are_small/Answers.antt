use Rattle.gpu_core.proofs.BoxCosts.{cost_law-is}
use Rattle.gpu_core.proofs.laws.costs_are_small.Goals as goal

pub returns : goal.returns
returns c = cost_law-is
