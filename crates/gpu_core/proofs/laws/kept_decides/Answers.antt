use Rattle.gpu_core.proofs.Alike.{go_on-alike}
use Rattle.gpu_core.proofs.laws.kept_decides.Goals as goal

pub returns : goal.returns
returns c = go_on-alike
