use Rattle.capture_flat.proofs.Allows.{skips_allowed}
use Rattle.capture_flat.proofs.allowed.allowed.Goals as goal

pub returns-in-Take : goal.returns-in-Take
returns-in-Take c = rw c.in-Take.is (skips_allowed c.in-Take.block.n)
